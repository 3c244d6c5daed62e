-- A search learns that no rule gives an atom, and the atom becomes false, or the nogood is to be struck.
use Rattle.std.proofs.Common.{◌≡◌, ℕ, ◌<◌, ◌⊎◌, true, nat_eq, ◌&&◌, List, [], ◌∷◌, ◌++◌, length, map, refl, sym, ◌∙◌, ap, subst, inl, inr, arith, zero, suc}
use Rattle.std.specs.Prelude.{Option, Some, None, slice_get, option_map}
use Rattle.std.proofs.lemmas.Option.{same_Some}
use Rattle.lists.specs.Lists.{◌∈◌}
use Rattle.lists.proofs.ListLemmas.{∈-append_left}
use Rattle.alpha_outside.specs.declared.event.Event.TheVariants as say
use Rattle.alpha_outside.specs.declared.literal.Value.TheVariants.{MustBe, False}
use Rattle.alpha_outside.specs.declared.literal.Lit.{Lit}
use Rattle.alpha_outside.specs.declared.node.Node.{Node}
use Rattle.alpha_outside.specs.declared.pattern.Pattern.{Pattern}
use Rattle.alpha_outside.specs.declared.pattern.PatternTerm.TheOpen as layer
use Rattle.alpha_outside.specs.declared.pattern.PatternTerm.TheVariants as term
use Rattle.alpha_outside.specs.declared.pattern.PatternTerm.TheFolds.{fold-roll-PatternTerm}
use Rattle.alpha_outside.specs.Outside as outside
use Rattle.alpha_outside.specs.Outside.{with_event}
use Rattle.asp_meaning.specs.declared.value.Value as meaning
use Rattle.core_rules.specs.CoreForm.{arity_of}
use Rattle.core_meaning.specs.Atoms.{GroundAtom, ground_atom}
use Rattle.search_values.specs.declared.entry.Entry.{Entry}
use Rattle.search_values.specs.Values.{lit, value_of, first_level, all_at_0, Holds}
use Rattle.search_values.specs.Instances.{IsHead}
use Rattle.search_values.proofs.Basics.{get_last, and_left, and_right, nat_eq-true}
use Rattle.term_pool.specs.Nodes.{value_at}
use Rattle.journal_theory.specs.States as phase
use Rattle.journal_theory.specs.States.{State, IsName, NoneStuck}
use Rattle.journal_theory.specs.Covers.{PatternCovers, IsWanted, for_stuck, for_unassigned, MayJustify}
use Rattle.journal_theory.specs.Events.{Justified, Justify, Allowed, IsNew, phase_justified}
use Rattle.journal_theory.specs.Journals.{replay}
use Rattle.journal_theory.proofs.Above.{justified_is_new}
use Rattle.conflict_learning.specs.Analysing.{IsUnitBelow}
use Rattle.search_rules.specs.Tests.{is_this}
use Rattle.search_rules.specs.Fitting.{Holes, fill, fill_step, arguments, found_holes}
use Rattle.search_rules.specs.Sameness.{atoms_same}
use Rattle.search_rules.specs.Rules.{Reached, search_rules}
use Rattle.search_rules.proofs.FittingLemmas.{fitting_is_arising}
use Rattle.search_state.specs.Searching.{Searching, ids, terms, state_of}
use Rattle.search_state.specs.Underivable.{IsPatternAt, justified_lits, with_justified}
use Rattle.search_journals.specs.Journals.{Step}
use Rattle.search_journals.specs.Standing as standing
use Rattle.search_journals.specs.Standing.{StandsAt, Fits, IsReady, IsGrounded, listed}
use Rattle.search_journals.specs.Moves.{MoveIs, GivesNow}
use Rattle.search_journals.specs.Measures.{work_left}
use Rattle.search_journals.specs.Runs.{Runs, Stepped}
use Rattle.search_journals.specs.Justifying.{IsCoverOf, MayJustifyNow, HasJustified}
use Rattle.search_journals.specs.Settling.{IsToStrike, learnt}
use Rattle.search_journals.specs.declared.moves.Move.{Move}
use Rattle.search_journals.specs.declared.moves.Move.TheVariants as move
use Rattle.search_journals.proofs.Standing.{budget, stands_on}
use Rattle.search_journals.proofs.Unlisted.{justify_on}
use Rattle.search_journals.proofs.Allowing.{none_stays_stuck}
use Rattle.search_journals.proofs.Choosing.{none_empty_more}
use Rattle.search_journals.proofs.Explained.{closed_is_false, explain_same}
use Rattle.search_journals.proofs.Learning.{is_stuck}
use Rattle.search_journals.proofs.Readying.{kept_with, none_empty}
use Rattle.search_journals.proofs.Stepping.{named_below, runs_on}

-- ---- the pattern of an atom alone

-- known terms become what they are
known_become : (nodes : List Node) (h : Holes) (args : List ℕ) → map (fill nodes h) (map term.Known args) ≡ map (value_at nodes) args
known_become nodes h [] = refl
known_become nodes h (t ∷ args) =
    let here : fill nodes h (term.Known t) ≡ value_at nodes t =
    ap (fill nodes h) (sym (term.rolls-Known t)) ∙ fold-roll-PatternTerm meaning.Value (fill_step nodes h) (layer.Known t) in
    let rest = known_become nodes h args in
    λ i. here i ∷ rest i

-- there are as many
many_known : (args : List ℕ) → length (map term.Known args) ≡ length args
many_known [] = refl
many_known (t ∷ args) = let rest = many_known args in omega (arith, rest)

-- where the test says so, there is an atom, and it is this one
this_is : (a : GroundAtom) (found : Option GroundAtom) → is_this a found ≡ true → found ≡ Some a
this_is a None e = absurd (cc)
this_is a (Some b) e = ap Some (atoms_same b a e)

module _ (v : Searching) (x : ℕ) (p : Pattern) (is : IsPatternAt v x p) (a : GroundAtom) (named : IsName (state_of v) x a) where
  -- the ids of its terms
  abbrev args_of : List ℕ
  args_of = (is a named).0

  -- with them the predicate makes the atom
  makes_it : ground_atom v.core.aggregates p.pred (map (value_at (terms v)) args_of) ≡ Some a
  makes_it = this_is a (ground_atom v.core.aggregates p.pred (map (value_at (terms v)) args_of))
      (and_right (nat_eq (arity_of p.pred) (length args_of)) _ (is a named).4)

  -- whatever its holes become, for it has none
  becomes : (h : Holes) → map (fill (terms v) h) p.args ≡ map (value_at (terms v)) args_of
  becomes h = ap (map (fill (terms v) h)) (is a named).1 ∙ known_become (terms v) h args_of

  -- it covers the atom
  pub covers_it : PatternCovers (search_rules v.core) (state_of v) p a
  covers_it = (
    (fitting_is_arising v.core (terms v) p a).1 (record {
      holes = found_holes p.args (arguments a);
      arity = nat_eq-true (arity_of p.pred) (length args_of) (and_left (nat_eq (arity_of p.pred) (length args_of)) _ (is a named).4)
          ∙ sym (ap length (is a named).1 ∙ many_known args_of);
      is = ap (ground_atom v.core.aggregates p.pred) (becomes (found_holes p.args (arguments a))) ∙ makes_it;
    }),
    (λ y i. absurd (subst (λ z. y ∈ z) (is a named).2 i)),
  )

  -- and no other
  pub covers_alone : (b : GroundAtom) → PatternCovers (search_rules v.core) (state_of v) p b → b ≡ a
  covers_alone b c =
      let r = (fitting_is_arising v.core (terms v) p b).0 c.0 in
      same_Some b a (sym r.is ∙ ap (ground_atom v.core.aggregates p.pred) (becomes r.holes) ∙ makes_it)

-- ---- the nogood may be learned

-- the atom isn't false
not_false : (v : Searching) (x : ℕ) → MayJustifyNow v x → ¬ (value_of v.stack x ≡ Some False)
not_false v x may f = elim may.2 [
  | inl next ↦ (let bad = sym next.3.1 ∙ f in cc)
  | inr next ↦ (let bad = sym next.2 ∙ f in cc)
]

module _ (g : standing.Given) (v : Searching) (told : Option outside.Journal) (held : Option (List ℕ)) (left rest : ℕ)
    (journal : List Step) (at : StandsAt g v told held left rest journal) (fits : Fits g v) (x : ℕ) (may : MayJustifyNow v x) where
  -- it is wanted
  wanted : IsWanted (search_rules v.core) (state_of v) x
  wanted = elim may.2 [
    | inl next ↦ for_unassigned may.0.free (record {
      no_value = next.3.1;
      none_struck = next.0.none_struck;
      none_unit = next.0.none_unit;
      none_stuck = none_stays_stuck v next.1 next.2;
      none_closed = next.1;
    })
    | inr next ↦ subst (λ core. IsWanted (search_rules core) (state_of v) x) (sym fits)
        (for_stuck may.0.free (is_stuck g v told held left rest journal at x fits may.0 next))
  ]

  -- the atom alone is a cover
  may_justify : (p : Pattern) → IsPatternAt v x p → MayJustify (search_rules v.core) (state_of v) (p ∷ []) (justified_lits x)
  may_justify p is = record {
    id = x;
    wanted = wanted;
    atom = may.1.atom;
    named = may.1.named;
    first = p;
    others = [];
    patterns_are = refl;
    covered = covers_it v x p is may.1.atom may.1.named;
    reasons = [];
    lits_are = refl;
    before = λ l i. absurd i;
    covers = λ n c extends m i there a among head. elim among [
      | inl covered ↦ absurd (may.1.none_gives m.0 m.1 i there
          (subst (λ (z : GroundAtom). IsHead i.kind z) (covers_alone v x p is may.1.atom may.1.named a covered) head))
      | inr none ↦ absurd none
    ];
  }

  -- so the nogood may be learned
  pub may_learn_justified : (p : Pattern) → IsPatternAt v x p
      → Allowed (search_rules g.core) [] (state_of v) (Justify (p ∷ []) (justified_lits x))
  may_learn_justified p is =
      let m = subst (λ core. MayJustify (search_rules core) (state_of v) (p ∷ []) (justified_lits x)) fits (may_justify p is) in (
        m,
        subst (λ (s : Reached). IsNew s.nogoods (justified_lits x)) (sym at.is)
            (justified_is_new (search_rules g.core) (listed g) journal at.legal (p ∷ []) (justified_lits x)
            (justify_on (search_rules g.core) (replay (search_rules g.core) journal) (p ∷ []) (justified_lits x)
            (subst (λ (s : Reached). MayJustify (search_rules g.core) s (p ∷ []) (justified_lits x)) at.is m))),
      )

-- the nogood was learned and noted, and the search stands where it stood
pub has_justified : (v v' : Searching) (told told' : Option outside.Journal) (x n : ℕ) (cover : List Pattern) (lits : List Lit)
    → MayJustifyNow v x → IsCoverOf v x cover → v' ≡ with_justified v x → n ≡ length v.nogoods → lits ≡ justified_lits x
    → told' ≡ option_map (with_event (say.Learned n Justified lits cover)) told → HasJustified v v' told told' x n
has_justified v v' told told' x n cover lits may covers is number lits_are t = record {
  carries = λ held left rest g fits s. (
    Justify (covers.pattern ∷ []) (justified_lits x) ∷ s.0,
    stands_on g v v' told told' held left rest rest s.0 s.1 (Justify (covers.pattern ∷ []) (justified_lits x))
        (say.Learned n Justified (justified_lits x) (covers.pattern ∷ [])) tt
        (may_learn_justified g v told held left rest s.0 s.1 fits x may covers.pattern covers.is)
        (number ∙ ap (λ (z : Reached). length z.nogoods) s.1.is, inr (refl, refl))
        (ap state_of is ∙ ap (λ (st : List Entry). let s : Reached = record (state_of (with_justified v x)) { stack = st } in s)
        (sym (explain_same may.0.kept.stack.places x (length v.nogoods) v.stack may.0.kept.stack.is_stack (not_false v x may))))
        (t ∙ (λ i. option_map (with_event (say.Learned n Justified (lits_are i) (covers.one i))) told))
        s.1.strikes_left (ap budget is),
  );
  is = is;
  number = number;
}

-- ---- what comes of it

-- the nogood has a literal
some_lit : (x : ℕ) → ¬ (justified_lits x ≡ [])
some_lit x e = cc

-- where the atom had no value the search is ready again
ready_justified : (v : Searching) (x : ℕ) → IsReady v → value_of v.stack x ≡ None → IsReady (with_justified v x)
ready_justified v x ready free = record {
  kept = kept_with v (with_justified v x) refl ready.kept;
  free = (λ i. phase_justified (ready.free i) (free i) (length v.nogoods));
  grounded = grounded ready.grounded;
}
  where
    grounded : IsGrounded v → IsGrounded (with_justified v x)
    grounded (inl low) = inl low
    grounded (inr firm) = inr (none_empty_more v.nogoods (justified_lits x) (some_lit x) firm)

module _ (v v' : Searching) (told told' : Option outside.Journal) (x n : ℕ) (just : HasJustified v v' told told' x n) where
  -- it is there
  nogood_there : slice_get v'.nogoods n ≡ Some (learnt (justified_lits x))
  nogood_there =
      ap (λ (z : Searching). slice_get z.nogoods n) just.is ∙ ap (slice_get (v.nogoods ++ learnt (justified_lits x) ∷ [])) just.number
      ∙ get_last v.nogoods (learnt (justified_lits x))

  -- the stack is as it was
  same_stack : v'.stack ≡ v.stack
  same_stack = ap (λ (z : Searching). z.stack) just.is

  module _ (next : MoveIs v (move.Justify x)) (ready : IsReady v) where
    -- the search runs on with one nogood more
    pub runs_justified : Runs v v' told told'
    runs_justified = record {
      core = ap (λ (z : Searching). z.core) just.is;
      ready = subst (λ (z : Searching). IsReady z) (sym just.is) (ready_justified v x ready next.3.1);
      stays = λ ng i. subst (λ (z : Searching). ng ∈ z.nogoods) (sym just.is)
          (∈-append_left ng v.nogoods (learnt (justified_lits x) ∷ []) i);
      carries = just.carries;
    }

    -- the atom has an id
    justified_low : x < ids v'
    justified_low = subst (λ (z : Searching). x < ids z) (sym just.is) (named_below v x (next.3.0.atom, next.3.0.named))

    -- and becomes false
    pub justified_unit : GivesNow v' n x False
    justified_unit = (
      justified_low,
      (
        learnt (justified_lits x),
        nogood_there,
        record {
          among = inl refl;
          unassigned = ap (λ stack. value_of stack x) same_stack ∙ next.3.1;
          others = λ l i. elim i [ inl e ↦ inl e | inr none ↦ absurd none ];
        },
      ),
    )

    -- a step after it is one from before
    pub stepped_justified : (v2 : Searching) (told2 : Option outside.Journal) (o : Option Move) → Stepped v' v2 told' told2 o
        → Stepped v v2 told told2 o
    stepped_justified v2 told2 None s = (
      runs_on v v' v2 told told' told2 runs_justified s.0,
      (let less = s.1 in let same : work_left v' ≡ work_left v = ap work_left just.is in omega (arith, less, same)),
    )
    stepped_justified v2 told2 (Some found) s = (runs_on v v' v2 told told' told2 runs_justified s.0, s.1, s.2)

  -- of a stuck atom the nogood is to be struck
  pub strike_justified : IsReady v → MoveIs v (move.Stuck x) → IsToStrike v' n
  strike_justified ready next = subst (λ (z : Searching). IsToStrike z n) (sym just.is) (record {
    kept = kept_with v (with_justified v x) refl ready.kept;
    phase_is = (λ i. phase_justified (ready.free i) (next.2 i) (length v.nogoods)) ∙ ap (λ m. phase.MustStrike m) (sym just.number);
    nogood = learnt (justified_lits x);
    there = ap (slice_get (v.nogoods ++ learnt (justified_lits x) ∷ [])) just.number ∙ get_last v.nogoods (learnt (justified_lits x));
    struck = λ l i. elim i [
      | inl e ↦ subst (λ (z : Lit). Holds v.stack z) (sym e) (MustBe, next.2, refl)
      | inr none ↦ absurd none
    ];
    alone = by_level (first_level v.stack x) refl;
    firm = λ above. none_empty_more v.nogoods (justified_lits x) (some_lit x) (none_empty v.stack v.nogoods next.0.none_struck);
  })
    where
      by_level : (n : ℕ) → first_level v.stack x ≡ n
          → (all_at_0 v.stack (justified_lits x) ≡ true) ⊎ IsUnitBelow v.stack (justified_lits x)
      by_level zero e = inl (ap (λ k. nat_eq k 0 && true) e)
      by_level (suc k) e = inr (
        (λ l i closed. elim i [
          | inl same ↦ (let f = closed_is_false ready.kept.stack.places v.stack ready.kept.stack.is_stack l.atom closed in
              let g = ap (λ (z : Lit). value_of v.stack z.atom) same in let bad : Some False ≡ Some MustBe = sym f ∙ g ∙ next.2 in cc)
          | inr none ↦ absurd none
        ]),
        record {
          left = lit x true;
          among = inl refl;
          above = (omega (arith, e));
          others = λ l i. elim i [ inl same ↦ inl same | inr none ↦ absurd none ];
        },
      )
