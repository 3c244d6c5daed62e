-- What lifting leaves of a term: under the equations its value, fresh numbers one after another, and equations for parts of it.
use Rattle.std.proofs.Common.{◌≡◌, inl, inr, refl, sym, ap, subst, ◌∙◌, ℕ, suc, List, [], ◌∷◌, ◌++◌, map, Some}
use Rattle.lists.specs.Lists.{◌∈◌, Each}
use Rattle.lists.proofs.ListLemmas.{Each-append, ∈-map}
use Rattle.asp_syntax.specs.declared.tree.Term.{Term, map-Term}
use Rattle.asp_syntax.specs.declared.tree.Term.TheOpen.{Term-F}
use Rattle.asp_syntax.specs.declared.tree.Term.TheOpen as layer
use Rattle.asp_syntax.specs.declared.tree.Term.TheViews.{roll-Term}
use Rattle.asp_syntax.specs.declared.tree.Term.TheFolds.{fold-Term, fold-roll-Term, ind-Term}
use Rattle.asp_syntax.specs.declared.tree.Atom as syntax
use Rattle.asp_meaning.specs.Terms.{anonymous, Substitution, all_of, functional_of, eval}
use Rattle.rewriting.specs.Lifting.{Equation, Lifted, Lifting, stays, goes_out, lift_each, lift_step, lift_term, lift_atom}
use Rattle.rewriting.proofs.Evaluating.{eval_roll}

-- ---- lists of equations

-- the equation is true: its term has the value of its variable
abbrev pub Holds : Substitution → Equation → Type 0
Holds s e = eval s e.term ≡ Some (s (anonymous e.fresh))

-- the fresh numbers go from the first number up to before the second
abbrev pub AreFrom : ℕ → List Equation → ℕ → Type 0
AreFrom k [] n = k ≡ n
AreFrom k (e ∷ es) n = (e.fresh ≡ k) × AreFrom (suc k) es n

-- numbers that go on where others end
AreFrom-append : (k m n : ℕ) (xs ys : List Equation) → AreFrom k xs m → AreFrom m ys n → AreFrom k (xs ++ ys) n
AreFrom-append k m n [] ys h g = subst (λ j. AreFrom j ys n) (sym h) g
AreFrom-append k m n (x ∷ xs) ys h g = (h.0, AreFrom-append (suc k) m n xs ys h.1 g)

-- what holds of each of two lists put together holds of each of the first
pub Each-left : {A : Type 0} (P : A → Type 0) (xs ys : List A) → Each P (xs ++ ys) → Each P xs
Each-left P [] ys h = tt
Each-left P (x ∷ xs) ys h = (h.0, Each-left P xs ys h.1)

-- and of each of the second
pub Each-right : {A : Type 0} (P : A → Type 0) (xs ys : List A) → Each P (xs ++ ys) → Each P ys
Each-right P [] ys h = h
Each-right P (x ∷ xs) ys h = Each-right P xs ys h.1

-- one function after another along a list
pub map_map : {A B C : Type 0} (g : B → C) (f : A → B) (xs : List A) → map (λ x. g (f x)) xs ≡ map g (map f xs)
map_map g f [] = refl
map_map g f (x ∷ xs) = ap (λ ys. g (f x) ∷ ys) (map_map g f xs)

-- ---- one after another

-- the numbers of each go on where those of the one before end
pub each-from : {A B : Type 0} (f : A → ℕ → Lifted B) (xs : List A) → ((x : A) → x ∈ xs → (k : ℕ) → AreFrom k (f x k).equations (f x k).next)
    → (k : ℕ) → AreFrom k (lift_each f xs k).equations (lift_each f xs k).next
each-from f [] h k = refl
each-from f (x ∷ xs) h k =
    AreFrom-append k (f x k).next (lift_each f xs (f x k).next).next (f x k).equations (lift_each f xs (f x k).next).equations (h x (inl refl) k)
    (each-from f xs (λ y i. h y (inr i)) (f x k).next)

-- what holds of the equations of each holds of all equations
pub each-all : {A B : Type 0} (Q : Equation → Type 0) (f : A → ℕ → Lifted B) (xs : List A) → ((x : A) → x ∈ xs → (k : ℕ) → Each Q (f x k).equations)
    → (k : ℕ) → Each Q (lift_each f xs k).equations
each-all Q f [] h k = tt
each-all Q f (x ∷ xs) h k =
    Each-append Q (f x k).equations (lift_each f xs (f x k).next).equations (h x (inl refl) k) (each-all Q f xs (λ y i. h y (inr i)) (f x k).next)

-- where the equations of each keep something, all equations keep it of all
pub each-same : {A B C : Type 0} (Q : Equation → Type 0) (f : A → ℕ → Lifted B) (g : A → C) (h : B → C) (xs : List A)
    → ((x : A) → x ∈ xs → (k : ℕ) → Each Q (f x k).equations → h (f x k).lifted ≡ g x)
    → (k : ℕ) → Each Q (lift_each f xs k).equations → map h (lift_each f xs k).lifted ≡ map g xs
each-same Q f g h [] same k holds = refl
each-same Q f g h (x ∷ xs) same k holds =
    let first = same x (inl refl) k (Each-left Q (f x k).equations (lift_each f xs (f x k).next).equations holds) in
    let rest = each-same Q f g h xs (λ y i. same y (inr i)) (f x k).next (Each-right Q (f x k).equations (lift_each f xs (f x k).next).equations holds) in
    λ i. first i ∷ rest i

-- ---- terms

-- the lifting of a term
abbrev lift : Term → Lifting
lift t = fold-Term Lifting lift_step t

-- the lifting of a term by its layer
lift_roll : (x : Term-F Term) → lift (roll-Term x) ≡ lift_step (map-Term Term Lifting lift x)
lift_roll x = fold-roll-Term Lifting lift_step x

-- what is lifted is the term
abbrev IsWhole : Term → Type 0
IsWhole t = (lift t).whole ≡ t

-- a term of which this is proved
abbrev Wholes : Type 0
Wholes = (t : Term) × IsWhole t

-- so it is with lists of such terms
args_whole : (es : List Wholes) → map (λ (l : Lifting). l.whole) (map lift (map (λ (e : Wholes). e.0) es)) ≡ map (λ (e : Wholes). e.0) es
args_whole [] = refl
args_whole (e ∷ es) = let first = e.1 in let rest = args_whole es in λ i. first i ∷ rest i

-- and with a layer of them
layer_whole : (y : Term-F Wholes) → (lift_step (map-Term Term Lifting lift (map-Term Wholes Term (λ (e : Wholes). e.0) y))).whole ≡ roll-Term (map-Term Wholes Term (λ (e : Wholes). e.0) y)
layer_whole (layer.Int n) = refl
layer_whole (layer.Variable x) = refl
layer_whole (layer.Anonymous k) = refl
layer_whole (layer.Symbol x) = refl
layer_whole (layer.Text x) = refl
layer_whole (layer.Fun f args) = ap (λ ts. roll-Term (layer.Fun f ts)) (args_whole args)
layer_whole (layer.Minus t) = ap (λ u. roll-Term (layer.Minus u)) t.1
layer_whole (layer.Arith op l r) = let first = l.1 in let second = r.1 in λ i. roll-Term (layer.Arith op (first i) (second i))

-- what is lifted is the term itself
pub lift-whole : (t : Term) → (fold-Term Lifting lift_step t).whole ≡ t
lift-whole = ind-Term IsWhole (λ x y is.
    subst (λ z. IsWhole (roll-Term z)) is (ap (λ (l : Lifting). l.whole) (lift_roll (map-Term Wholes Term (λ (e : Wholes). e.0) y)) ∙ layer_whole y))

module _ (s : Substitution) (P : Term → Type 0) (parts : (f : List ℕ) (ts : List Term) → P (roll-Term (layer.Fun f ts)) → (t : Term) → t ∈ ts → P t) where
  -- under its equations it has its value, its numbers are one after another, and the equations are for what P holds of
  pub record IsGood (l : Lifting) : Type 0 where
    pub value : (k : ℕ) → Each (Holds s) (l.from k).equations → eval s (l.from k).lifted ≡ eval s l.whole
    pub numbers : (k : ℕ) → AreFrom k (l.from k).equations (l.from k).next
    pub old : (k : ℕ) → P l.whole → Each (λ e. P e.term) (l.from k).equations

  -- a term that stays is good
  stays_good : (t : Term) → IsGood (stays t)
  stays_good t = record { value = λ k h. refl; numbers = λ k. refl; old = λ k p. tt }

  -- a term that goes out is good
  goes_out_good : (t : Term) → IsGood (goes_out t)
  goes_out_good t = record { value = λ k h. eval_roll s (layer.Anonymous k) ∙ sym h.0; numbers = λ k. (refl, refl); old = λ k p. (p, tt) }

  -- a term of which this is proved
  abbrev Goods : Type 0
  Goods = (t : Term) × IsGood (lift t)

  -- the liftings of such terms
  abbrev lifts : List Goods → List Lifting
  lifts es = map lift (map (λ (e : Goods). e.0) es)

  -- each of them is good
  goods : (es : List Goods) (l : Lifting) → l ∈ lifts es → IsGood l
  goods [] l among = absurd among
  goods (e ∷ es) l (inl same) = subst IsGood (sym same) e.1
  goods (e ∷ es) l (inr among) = goods es l among

  -- a functional term is good where its arguments are
  fun_good : (f : List ℕ) (ls : List Lifting) → ((l : Lifting) → l ∈ ls → IsGood l) → IsGood (lift_step (layer.Fun f ls))
  fun_good f ls good = record {
    value = λ k h.
        eval_roll s (layer.Fun f (lift_each (λ (l : Lifting). l.from) ls k).lifted)
        ∙ ap (λ xs. functional_of f (all_of xs))
        (each-same (Holds s) (λ (l : Lifting). l.from) (λ l. eval s l.whole) (eval s) ls (λ l i. (good l i).value) k h ∙ map_map (eval s) (λ (l : Lifting). l.whole) ls)
        ∙ sym (eval_roll s (layer.Fun f (map (λ (l : Lifting). l.whole) ls)));
    numbers = each-from (λ (l : Lifting). l.from) ls (λ l i. (good l i).numbers);
    old = λ k p. each-all (λ e. P e.term) (λ (l : Lifting). l.from) ls
        (λ l i j. (good l i).old j (parts f (map (λ (l : Lifting). l.whole) ls) p l.whole (∈-map (λ (l : Lifting). l.whole) l ls i))) k;
  }

  -- a layer of such terms is good
  layer_good : (y : Term-F Goods) → IsGood (lift_step (map-Term Term Lifting lift (map-Term Goods Term (λ (e : Goods). e.0) y)))
  layer_good (layer.Int n) = stays_good (roll-Term (layer.Int n))
  layer_good (layer.Variable x) = stays_good (roll-Term (layer.Variable x))
  layer_good (layer.Anonymous k) = stays_good (roll-Term (layer.Anonymous k))
  layer_good (layer.Symbol x) = stays_good (roll-Term (layer.Symbol x))
  layer_good (layer.Text x) = stays_good (roll-Term (layer.Text x))
  layer_good (layer.Fun f args) = fun_good f (lifts args) (goods args)
  layer_good (layer.Minus t) = goes_out_good (roll-Term (layer.Minus (lift t.0).whole))
  layer_good (layer.Arith op l r) = goes_out_good (roll-Term (layer.Arith op (lift l.0).whole (lift r.0).whole))

  -- each term is good
  lift_good : (t : Term) → IsGood (lift t)
  lift_good = ind-Term (λ t. IsGood (lift t)) (λ x y is.
      subst (λ z. IsGood (lift (roll-Term z))) is
      (subst IsGood (sym (lift_roll (map-Term Goods Term (λ (e : Goods). e.0) y))) (layer_good y)))

  -- under the equations a lifted term has the value of the term
  lift_term-value : (t : Term) (k : ℕ) → Each (Holds s) (lift_term t k).equations → eval s (lift_term t k).lifted ≡ eval s t
  lift_term-value t k h = (lift_good t).value k h ∙ ap (eval s) (lift-whole t)

  -- ---- atoms

  -- under the equations the terms of a lifted atom have the values of those of the atom
  pub lift_atom-values : (a : syntax.Atom) (k : ℕ) → Each (Holds s) (lift_atom a k).equations → map (eval s) (lift_atom a k).lifted.args ≡ map (eval s) a.args
  lift_atom-values a k h = each-same (Holds s) lift_term (eval s) (eval s) a.args (λ t i. lift_term-value t) k h

  -- the numbers of an atom are one after another
  lift_atom-from : (a : syntax.Atom) (k : ℕ) → AreFrom k (lift_atom a k).equations (lift_atom a k).next
  lift_atom-from a k = each-from lift_term a.args (λ t i. (lift_good t).numbers) k

  -- the equations of an atom are for terms of which P holds, where it holds of its terms
  lift_atom-old : (a : syntax.Atom) → ((t : Term) → t ∈ a.args → P t) → (k : ℕ) → Each (λ e. P e.term) (lift_atom a k).equations
  lift_atom-old a h k = each-all (λ e. P e.term) lift_term a.args (λ t i j. (lift_good t).old j (subst P (sym (lift-whole t)) (h t i))) k

  -- the numbers of all atoms are one after another
  pub lift_atoms-from : (ps : List syntax.Atom) (k : ℕ) → AreFrom k (lift_each lift_atom ps k).equations (lift_each lift_atom ps k).next
  lift_atoms-from ps k = each-from lift_atom ps (λ a i. lift_atom-from a) k

  -- and the equations are for terms of which P holds, where it holds of the terms of all atoms
  pub lift_atoms-old : (ps : List syntax.Atom) → ((a : syntax.Atom) → a ∈ ps → (t : Term) → t ∈ a.args → P t)
      → (k : ℕ) → Each (λ e. P e.term) (lift_each lift_atom ps k).equations
  lift_atoms-old ps h k = each-all (λ e. P e.term) lift_atom ps (λ a i. lift_atom-old a (h a i)) k

-- what is true of each term
abbrev Nothing : Term → Type 0
Nothing t = Unit {0}

-- under the equations the terms of a lifted atom have the values of those of the atom
pub atom_values : (s : Substitution) (a : syntax.Atom) (k : ℕ) → Each (Holds s) (lift_atom a k).equations → map (eval s) (lift_atom a k).lifted.args ≡ map (eval s) a.args
atom_values s = lift_atom-values s Nothing (λ f ts p t i. tt)
