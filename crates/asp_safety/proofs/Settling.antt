-- Following what clauses derive.
use Rattle.std.proofs.Common.{◌≡◌, ◌⊎◌, ◌↔◌, inl, inr, refl, sym, ap, subst, ◌∙◌, Bool, true, false, List, [], ◌∷◌, ◌++◌}
use Rattle.lists.specs.Lists.{◌∈◌, ◌⊆◌}
use Rattle.lists.proofs.ListLemmas.{∈-append_left, ∈-append_right, ∈-append_cases}
use Rattle.asp_meaning.specs.Terms.{Variable}
use Rattle.asp_safety.specs.declared.clause.Clause.{Clause}
use Rattle.asp_safety.specs.Keys.{variable_eq}
use Rattle.asp_safety.specs.KeyLaws.{variable_same}
use Rattle.asp_safety.specs.Clauses.{Derives, from_given, by_clause}
use Rattle.asp_safety.specs.Settling.{IsMet, IsReady, Follows, Waits, IsPartOf, IsUnmet, Placed, fired, filed, IsSettling}
use Rattle.asp_safety.proofs.Rows.{apart}

abbrev Rows : Type 0
Rows = List (Variable × List Clause)

-- the item that was taken from the end
tail_in : {A : Type 0} (whole left : List A) (x : A) → whole ≡ left ++ x ∷ [] → x ∈ whole
tail_in whole left x e = subst (λ xs. x ∈ xs) (sym e) (∈-append_right x left (x ∷ []) (inl refl))

front_in : {A : Type 0} (whole left : List A) (x y : A) → whole ≡ left ++ x ∷ [] → y ∈ left → y ∈ whole
front_in whole left x y e k = subst (λ xs. y ∈ xs) (sym e) (∈-append_left y left (x ∷ []) k)

from_end : {A : Type 0} (whole left : List A) (x y : A) → whole ≡ left ++ x ∷ [] → y ∈ whole → (y ∈ left) ⊎ (y ≡ x)
from_end whole left x y e k = elim (∈-append_cases y left (x ∷ []) (subst (λ xs. y ∈ xs) e k)) [
  | inl k ↦ inl k
  | inr k ↦ elim k [ inl same ↦ inr same | inr none ↦ absurd none ]
]

-- ---- taking needs off

-- before the first is taken each is left
pub none_off : {A : Type 0} (P : A → Type 0) (xs : List A) (w : A) → w ∈ xs → (w ∈ xs) ⊎ P w
none_off P xs w k = inl k

pub off : {A : Type 0} (P : A → Type 0) (all whole left : List A) (x : A) → whole ≡ left ++ x ∷ [] → P x
    → ((w : A) → w ∈ all → (w ∈ whole) ⊎ P w) → (w : A) → w ∈ all → (w ∈ left) ⊎ P w
off P all whole left x e here seen w k = elim (seen w k) [
  | inl k ↦ elim (from_end whole left x w e k) [ inl k ↦ inl k | inr same ↦ inr (subst P (sym same) here) ]
  | inr h ↦ inr h
]

pub off_less : {A : Type 0} (all whole left : List A) (x : A) → whole ≡ left ++ x ∷ [] → whole ⊆ all → left ⊆ all
off_less all whole left x e less y k = less y (front_in whole left x y e k)

pub all_off : {A : Type 0} (P : A → Type 0) (all left : List A) → left ≡ [] → ((w : A) → w ∈ all → (w ∈ left) ⊎ P w) → (w : A) → w ∈ all → P w
all_off P all left e seen w k = elim (seen w k) [ inl k ↦ absurd (subst (λ xs. w ∈ xs) e k) | inr h ↦ h ]

pub is_unmet : (given found all whole left : List Variable) (v : Variable) → whole ≡ left ++ v ∷ [] → ¬ IsMet given found v → whole ⊆ all
    → ((w : Variable) → w ∈ all → (w ∈ whole) ⊎ IsMet given found w) → IsUnmet given found all left v
is_unmet given found all whole left v e unmet less seen = record {
  there = less v (tail_in whole left v e);
  unmet = unmet;
  less = off_less all whole left v e less;
  kept = λ w k. elim (seen w k) [
    | inl k ↦ elim (from_end whole left v w e k) [ inl k ↦ inr (inl k) | inr same ↦ inl same ]
    | inr h ↦ inr (inr h)
  ];
}

-- ---- at first

pub settling_at_first : (given found fresh : List Variable) (rows : Rows) (clauses : List Clause) → found ≡ [] → fresh ≡ [] → rows ≡ []
    → IsSettling given found fresh rows clauses clauses
settling_at_first given found fresh rows clauses no_found no_fresh no_rows =
    let none : (v : Variable) (c : Clause) → ¬ Waits rows v c = λ v c (row, at, k). absurd (cc (at, no_rows)) in
    record {
      sound_found = λ v k. absurd (subst (λ xs. v ∈ xs) no_found k);
      sound_fresh = λ v k. absurd (subst (λ xs. v ∈ xs) no_fresh k);
      sound_rest = λ c k h. by_clause c.gives c k refl h;
      sound_rows = λ v c w. absurd (none v c w);
      unmet = λ v c w. absurd (none v c w);
      there = λ c k. inr (inl (c, record { gives = refl; needs = λ w n. n }, k));
    }

-- ---- placing a clause

module _ (given found : List Variable) (all : List Clause) (sound : (v : Variable) → v ∈ found → Derives given all v) where
  met_derived : (w : Variable) → IsMet given found w → Derives given all w
  met_derived w (inl k) = from_given w k
  met_derived w (inr k) = sound w k

module _ (given found old new : List Variable) (rows more : Rows) (all rest fewer : List Clause) (c : Clause) (e : rest ≡ fewer ++ c ∷ []) (s : IsSettling given found old rows all rest) where
  derived : (w : Variable) → IsMet given found w → Derives given all w
  derived = met_derived given found all s.sound_found

  follows : Follows given all c.needs c.gives
  follows = s.sound_rest c (tail_in rest fewer c e)

  on_fired : IsReady given found c → new ≡ old ++ c.gives ∷ [] → more ≡ rows → IsSettling given found new more all fewer
  on_fired ready longer same = record {
    sound_found = s.sound_found;
    sound_fresh = λ v k. elim (from_end new old c.gives v longer k) [
      | inl k ↦ s.sound_fresh v k
      | inr is ↦ subst (Derives given all) (sym is) (follows (λ w n. derived w (ready w n)))
    ];
    sound_rest = λ d k. s.sound_rest d (front_in rest fewer c d e k);
    sound_rows = λ v d w. s.sound_rows v d (subst (λ r. Waits r v d) same w);
    unmet = λ v d w. s.unmet v d (subst (λ r. Waits r v d) same w);
    there = λ b k. elim (s.there b k) [
      | inl (inl k) ↦ inl (inl k)
      | inl (inr k) ↦ inl (inr (front_in new old c.gives b.gives longer k))
      | inr (inl (d, part, k)) ↦ elim (from_end rest fewer c d e k) [
        | inl k ↦ inr (inl (d, part, k))
        | inr is ↦ inl (inr (subst (λ x. x ∈ new) (sym (ap (λ x. x.gives) is) ∙ part.gives) (tail_in new old c.gives longer)))
      ]
      | inr (inr (v, d, part, n, w)) ↦ inr (inr (v, d, part, n, subst (λ r. Waits r v d) (sym same) w))
    ];
  }

  on_filed : (v : Variable) (d : Clause) → d.gives ≡ c.gives → IsUnmet given found c.needs d.needs v → new ≡ old
      → ((u : Variable) (x : Clause) → Waits more u x ↔ (Waits rows u x ⊎ ((u ≡ v) × (x ≡ d)))) → IsSettling given found new more all fewer
  on_filed v d gives un same put = record {
    sound_found = s.sound_found;
    sound_fresh = λ u k. s.sound_fresh u (subst (λ xs. u ∈ xs) same k);
    sound_rest = λ b k. s.sound_rest b (front_in rest fewer c b e k);
    sound_rows = λ u x w. elim ((put u x).0 w) [
      | inl w ↦ s.sound_rows u x w
      | inr (at, is) ↦ λ h. subst (Derives given all) (sym (ap (λ y. y.gives) is ∙ gives)) (follows (λ y n. elim (un.kept y n) [
        | inl first ↦ h y (inl (first ∙ sym at))
        | inr (inl k) ↦ h y (inr (subst (λ z. y ∈ z.needs) (sym is) k))
        | inr (inr met) ↦ derived y met
      ]))
    ];
    unmet = λ u x w. elim ((put u x).0 w) [
      | inl w ↦ s.unmet u x w
      | inr (at, is) ↦ subst (λ y. ¬ IsMet given found y) (sym at) un.unmet
    ];
    there = λ b k. elim (s.there b k) [
      | inl (inl k) ↦ inl (inl k)
      | inl (inr k) ↦ inl (inr (subst (λ xs. b.gives ∈ xs) (sym same) k))
      | inr (inl (x, part, k)) ↦ elim (from_end rest fewer c x e k) [
        | inl k ↦ inr (inl (x, part, k))
        | inr is ↦
            let of_c : IsPartOf b c = subst (IsPartOf b) is part in
            inr (inr (v, d, record { gives = gives ∙ of_c.gives; needs = λ y n. of_c.needs y (un.less y n) }, of_c.needs v un.there, (put v d).1 (inr (refl, refl))))
      ]
      | inr (inr (u, x, part, n, w)) ↦ inr (inr (u, x, part, n, (put u x).1 (inl w)))
    ];
  }

  -- one turn of the loop over the clauses
  pub placed : Placed given found old new rows more c → IsSettling given found new more all fewer
  placed (fired ready longer same) = on_fired ready longer same
  placed (filed v d gives un same put) = on_filed v d gives un same put

-- ---- telling clauses that a variable is bound

pub passed_on : (given found grown old fresh : List Variable) (rows more : Rows) (all none taken : List Clause) (v : Variable) → none ≡ [] → old ≡ fresh ++ v ∷ []
    → ((u : Variable) → (u ∈ grown) ↔ ((u ∈ found) ⊎ (u ≡ v))) → ((c : Clause) → (c ∈ taken) ↔ Waits rows v c)
    → ((u : Variable) (c : Clause) → Waits more u c ↔ (Waits rows u c × (¬ (u ≡ v)))) → IsSettling given found old rows all none → IsSettling given grown fresh more all taken
passed_on given found grown old fresh rows more all none taken v no_rest e grows is_taken is_left s =
    let here : Derives given all v = s.sound_fresh v (tail_in old fresh v e) in
    record {
      sound_found = λ u k. elim ((grows u).0 k) [ inl k ↦ s.sound_found u k | inr same ↦ subst (Derives given all) (sym same) here ];
      sound_fresh = λ u k. s.sound_fresh u (front_in old fresh v u e k);
      sound_rest = λ c k h. s.sound_rows v c ((is_taken c).0 k) (λ w n. elim n [ inl same ↦ subst (Derives given all) (sym same) here | inr n ↦ h w n ]);
      sound_rows = λ u c w. s.sound_rows u c (((is_left u c).0 w).0);
      unmet = λ u c w met.
          let was = (is_left u c).0 w in
          elim met [
            | inl k ↦ s.unmet u c was.0 (inl k)
            | inr k ↦ elim ((grows u).0 k) [ inl k ↦ s.unmet u c was.0 (inr k) | inr same ↦ was.1 same ]
          ];
      there = λ c k. elim (s.there c k) [
        | inl (inl (inl k)) ↦ inl (inl (inl k))
        | inl (inl (inr k)) ↦ inl (inl (inr ((grows c.gives).1 (inl k))))
        | inl (inr k) ↦ elim (from_end old fresh v c.gives e k) [ inl k ↦ inl (inr k) | inr same ↦ inl (inl (inr ((grows c.gives).1 (inr same)))) ]
        | inr (inl (d, part, k)) ↦ absurd (subst (λ xs. d ∈ xs) no_rest k)
        | inr (inr (u, d, part, n, w)) ↦ by_case c u d part n w (variable_eq v u) refl
      ];
    }
  where
    by_case : (c : Clause) (u : Variable) (d : Clause) → IsPartOf c d → u ∈ c.needs → Waits rows u d → (b : Bool) → variable_eq v u ≡ b
        → (IsMet given grown c.gives ⊎ (c.gives ∈ fresh)) ⊎ (((d : Clause) × IsPartOf c d × (d ∈ taken)) ⊎ ((v : Variable) × (d : Clause) × IsPartOf c d × (v ∈ c.needs) × Waits more v d))
    by_case c u d part n w true t = inr (inl (d, part, (is_taken d).1 (subst (λ x. Waits rows x d) (sym (variable_same v u t)) w)))
    by_case c u d part n w false t = inr (inr (u, d, part, n, (is_left u d).1 (w, apart v u t)))

-- ---- at the end

module _ (given found fresh : List Variable) (rows : Rows) (all none : List Clause) (no_rest : none ≡ []) (no_fresh : fresh ≡ []) (s : IsSettling given found fresh rows all none) where
  -- what a ready clause gives is met
  closed : (c : Clause) → c ∈ all → IsReady given found c → IsMet given found c.gives
  closed c k ready = elim (s.there c k) [
    | inl (inl met) ↦ met
    | inl (inr k) ↦ absurd (subst (λ xs. c.gives ∈ xs) no_fresh k)
    | inr (inl (d, part, k)) ↦ absurd (subst (λ xs. d ∈ xs) no_rest k)
    | inr (inr (v, d, part, n, w)) ↦ absurd (s.unmet v d w (ready v n))
  ]

  complete : (v : Variable) → Derives given all v → IsMet given found v
  complete v (from_given w k) = inl k
  complete v (by_clause w c k is needs) = subst (IsMet given found) (sym is) (closed c k (λ u n. complete u (needs u n)))

  -- what is met is what is derived
  pub settled : (v : Variable) → ((v ∈ given) ⊎ (v ∈ found)) ↔ Derives given all v
  settled v = (λ k. elim k [ inl k ↦ from_given v k | inr k ↦ s.sound_found v k ], complete v)
