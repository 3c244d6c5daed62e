-- A search runs on by the steps that it finds.
use Rattle.std.proofs.Common.{◌≡◌, ℕ, ◌<◌, ◌≤◌, true, false, refl, sym, ◌∙◌, ap, subst, arith}
use Rattle.std.specs.Prelude.{Option, Some, None, option_map, Result, Ok, Err, OnOk, IfErr}
use Rattle.lists.specs.Lists.{◌∈◌}
use Rattle.alpha_outside.specs.declared.event.Event.TheVariants as say
use Rattle.alpha_outside.specs.Outside as outside
use Rattle.alpha_outside.specs.Outside.{with_event}
use Rattle.alpha_outside.specs.declared.literal.Value.{Value}
use Rattle.alpha_outside.specs.declared.literal.Value.TheVariants.{True, False}
use Rattle.search_values.specs.declared.entry.Why.TheVariants.{Given, Chosen, Closed}
use Rattle.search_values.specs.Values.{decision}
use Rattle.journal_theory.specs.Events.{Put, Choose, Close}
use Rattle.search_values.specs.Ids.{Named}
use Rattle.lazy_grounder.specs.Grounds.{names_of}
use Rattle.search_state.specs.Searching.{Searching, ids, assigned, state_of}
use Rattle.search_state.specs.Moves.{IsNamed}
use Rattle.search_journals.specs.Standing.{IsReady, IsTraceFault, IsTraceCause}
use Rattle.search_journals.specs.declared.ends.SearchFault.{SearchFault}
use Rattle.search_journals.specs.Runs.{Runs, GoesOn, Stepped}
use Rattle.search_journals.specs.Moves.{MoveIs, IsHalt, GivesNow}
use Rattle.search_journals.specs.declared.moves.Move.{Move}
use Rattle.search_journals.specs.declared.moves.Move.TheVariants as move
use Rattle.search_journals.proofs.Standing.{budget, event_carries, cause_on, note_fault}
use Rattle.search_journals.proofs.Names.{front_below}
use Rattle.search_journals.proofs.Measuring.{assigned_falls, gives_falls, choice_falls, closed_falls}
use Rattle.search_journals.proofs.Allowing.{may_put, may_choose, may_close}
use Rattle.search_journals.proofs.Readying.{put_may, choose_may, close_may, ready_put, ready_opened}

-- a named atom has an id
pub named_below : (v : Searching) (x : ℕ) → IsNamed v x → x < ids v
named_below v x named = front_below v.told.atoms (names_of v.core.aggregates v.ground) x (Named named.0) named.1

-- ---- the steps

-- a value was given, and there is less to do
pub runs_put : (v v' : Searching) (told told' : Option outside.Journal) (n a : ℕ) (value : Value) → IsReady v → GivesNow v n a value
    → v' ≡ assigned v a value (Given n) → ids v < 4294967296
    → told' ≡ option_map (with_event (say.Put a value n)) told → Stepped v v' told told' None
runs_put v v' told told' n a value ready next is few t = (
  record {
    core = ap (λ (z : Searching). z.core) is;
    ready = subst (λ z. IsReady z) (sym is) (ready_put v a n value (put_may v next.1.0 n a value next.0 next.1.2) ready);
    stays = λ ng i. subst (λ (z : Searching). ng ∈ z.nogoods) (sym is) i;
    carries = λ held left rest. event_carries v v' told told' (Put a value n) (say.Put a value n) held left rest rest tt
        (may_put v ready n a value next) refl (ap state_of is) t (λ journal. refl)
        (ap budget is);
  },
  assigned_falls v v' a value (Given n) (ap (λ (z : Searching). z.left) is) (ap (λ (z : Searching). z.joined) is)
      (ap (λ (z : Searching). z.stack) is) (let low = next.0 in omega (arith, low, few))
      (gives_falls v.stack next.1.0 a value next.1.2),
)

-- a body was chosen
pub runs_choose : (v v' : Searching) (told told' : Option outside.Journal) (b : ℕ) → IsReady v → MoveIs v (move.Choose b)
    → (let w : Searching = record (assigned v b (decision true) Chosen) { closing = false } in v' ≡ w) → ids v < 4294967296
    → told' ≡ option_map (with_event (say.Chosen b true)) told → Stepped v v' told told' None
runs_choose v v' told told' b ready next is few t = (
  record {
    core = ap (λ (z : Searching). z.core) is;
    ready = subst (λ z. IsReady z) (sym is)
        (ready_opened v b (decision true) Chosen false (choose_may v b next.3 next.4.2.not_yet) ready next.0.none_struck);
    stays = λ ng i. subst (λ (z : Searching). ng ∈ z.nogoods) (sym is) i;
    carries = λ held left rest. event_carries v v' told told' (Choose b true) (say.Chosen b true) held left rest rest tt
        (may_choose v ready b next) refl (ap state_of is) t (λ journal. refl)
        (ap budget is);
  },
  assigned_falls v v' b True Chosen (ap (λ (z : Searching). z.left) is) (ap (λ (z : Searching). z.joined) is)
      (ap (λ (z : Searching). z.stack) is) (let low = next.3 in omega (arith, low, few))
      (choice_falls v.stack b next.4.2.not_yet),
)

-- an atom was closed
pub runs_close : (v v' : Searching) (told told' : Option outside.Journal) (x : ℕ) → IsReady v → MoveIs v (move.Close x)
    → (let w : Searching = record (assigned v x False (Closed None)) { closing = true } in v' ≡ w) → ids v < 4294967296
    → told' ≡ option_map (with_event (say.Closed x)) told → Stepped v v' told told' None
runs_close v v' told told' x ready next is few t =
    let low = named_below v x next.3 in (
      record {
        core = ap (λ (z : Searching). z.core) is;
        ready = subst (λ z. IsReady z) (sym is)
            (ready_opened v x False (Closed None) true (close_may v x low next.4) ready next.0.none_struck);
        stays = λ ng i. subst (λ (z : Searching). ng ∈ z.nogoods) (sym is) i;
        carries = λ held left rest. event_carries v v' told told' (Close x) (say.Closed x) held left rest rest tt
            (may_close v ready x next) refl (ap state_of is) t (λ journal. refl)
            (ap budget is);
      },
      assigned_falls v v' x False (Closed None) (ap (λ (z : Searching). z.left) is) (ap (λ (z : Searching). z.joined) is)
          (ap (λ (z : Searching). z.stack) is) (omega (arith, low, few)) (closed_falls v.stack x next.4),
    )

-- ---- one step after another

-- a search that hasn't gone on yet
pub runs_none : (v : Searching) (told : Option outside.Journal) → IsReady v → Runs v v told told
runs_none v told ready = record { core = refl; ready = ready; stays = λ ng i. i; carries = λ held left rest g fits s. s }

-- and one that goes on
pub runs_on : (v v1 v' : Searching) (told told1 told' : Option outside.Journal) → Runs v v1 told told1 → Runs v1 v' told1 told'
    → Runs v v' told told'
runs_on v v1 v' told told1 told' a b = record {
  core = b.core ∙ a.core;
  ready = b.ready;
  stays = λ ng i. b.stays ng (a.stays ng i);
  carries = λ held left rest g fits s. b.carries held left rest g (a.core ∙ fits) (a.carries held left rest g fits s);
}

-- so does one after a step that brought it to no halt
pub runs_further : (v v1 v' : Searching) (told told1 told' : Option outside.Journal) (o : Option Move) → Runs v v1 told told1 → o ≡ None
    → Stepped v1 v' told1 told' o → Runs v v' told told'
runs_further v v1 v' told told1 told' o runs none s = runs_on v v1 v' told told1 told' runs
    (subst (λ z. Stepped v1 v' told1 told' z) none s).0

-- a fault later on
pub fault_on : (v v1 : Searching) (told told1 told' : Option outside.Journal) (before mid now : ℕ) (fault : SearchFault)
    → Runs v v1 told told1 → before ≤ mid → IsTraceFault v1 told1 told' mid now fault → IsTraceFault v told told' before now fault
fault_on v v1 told told1 told' before mid now fault runs later f = record {
  halts = λ g fits held left rest room s. f.halts g (runs.core ∙ fits) held left rest room (runs.carries held left rest g fits s);
  cause = cause_on before mid now fault later f.cause;
}

-- a search that ran on to a halt
pub runs_halt : (v v' : Searching) (told told' : Option outside.Journal) (m : Move) → Runs v v' told told' → IsHalt m → MoveIs v' m
    → Stepped v v' told told' (Some m)
runs_halt v v' told told' m runs halt next = (runs, halt, next)

-- a step after the search ran on with no more to do
pub stepped_on : (v v1 v' : Searching) (told told1 told' : Option outside.Journal) (o : Option Move) → GoesOn v v1 told told1
    → Stepped v1 v' told1 told' o → Stepped v v' told told' o
stepped_on v v1 v' told told1 told' None a b =
    (runs_on v v1 v' told told1 told' a.0 b.0, (let no_more = a.1 in let less = b.1 in omega (arith, no_more, less)))
stepped_on v v1 v' told told1 told' (Some found) a b = (runs_on v v1 v' told told1 told' a.0 b.0, b.1, b.2)

-- ---- answers

-- what holds anyway holds after success
pub ok_if : {T E P : Type 0} (r : Result T E) → P → OnOk r P
ok_if (Ok x) p = p
ok_if (Err e) p = tt

-- what holds of a fault gives something else of it
pub err_on : {T E : Type 0} {P Q : E → Type 0} (r : Result T E) → ((e : E) → P e → Q e) → IfErr r P → IfErr r Q
err_on (Ok x) f p = tt
err_on (Err e) f p = f e p

-- what two clauses say of a fault
pub err_both : {T E : Type 0} {P Q R : E → Type 0} (r : Result T E) → ((e : E) → P e → Q e → R e) → IfErr r P → IfErr r Q → IfErr r R
err_both (Ok x) f p q = tt
err_both (Err e) f p q = f e p q

-- a fault of noting is one while nothing is written
pub noted_fault : {T : Type 0} (r : Result T SearchFault) (v : Searching) (told told' : Option outside.Journal) (before now : ℕ)
    → IfErr r (λ f. told' ≡ told) → IfErr r (IsTraceCause before now) → IfErr r (IsTraceFault v told told' before now)
noted_fault r v told told' before now same cause = err_both r (λ f e c. note_fault v told told' before now f e c) same cause
