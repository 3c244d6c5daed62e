-- The test of nodes is equality.
use Rattle.std.proofs.Common.{◌≡◌, ℕ, Bool, true, false, ◌&&◌, nat_eq, List, refl, sym, ap, ◌∙◌, true≢false}
use Rattle.std.specs.Bool.{Decides}
use Rattle.std.proofs.lemmas.Bool.Decides.{Decides-eqb}
use Rattle.std.specs.Cmp.{IsEquivalence, signed_Decides, both_ways}
use Rattle.std.specs.Cmp.Lexicographic.{pointwise, pointwise_decides}
use Rattle.alpha_outside.specs.declared.node.Node.{Node}
use Rattle.alpha_outside.specs.declared.node.Node.TheVariants.{Int, Symbol, Text, Fun}
use Rattle.alpha_outside.specs.Nodes.{node_eq}

bytes : (xs ys : List ℕ) → Decides (pointwise nat_eq xs ys) (xs ≡ ys)
bytes = pointwise_decides Decides-eqb

both : (a b : Bool) → a ≡ true → b ≡ true → a && b ≡ true
both a b p q = ap (λ x. x && b) p ∙ q

first_of_two : (a b : Bool) → a && b ≡ true → a ≡ true
first_of_two true b e = refl
first_of_two false b e = e

second_of_two : (a b : Bool) → a && b ≡ true → b ≡ true
second_of_two true b e = e
second_of_two false b e = absurd (true≢false (sym e))

no : {A : Type 0} → false ≡ true → A
no e = absurd (true≢false (sym e))

pub node_same : (x y : Node) → node_eq x y ≡ true → x ≡ y
node_same (Int x) (Int y) e = ap Int ((signed_Decides x y).0 e)
node_same (Int x) (Symbol y) e = no e
node_same (Int x) (Text y) e = no e
node_same (Int x) (Fun g ys) e = no e
node_same (Symbol x) (Int y) e = no e
node_same (Symbol x) (Symbol y) e = ap Symbol ((bytes x y).0 e)
node_same (Symbol x) (Text y) e = no e
node_same (Symbol x) (Fun g ys) e = no e
node_same (Text x) (Int y) e = no e
node_same (Text x) (Symbol y) e = no e
node_same (Text x) (Text y) e = ap Text ((bytes x y).0 e)
node_same (Text x) (Fun g ys) e = no e
node_same (Fun f xs) (Int y) e = no e
node_same (Fun f xs) (Symbol y) e = no e
node_same (Fun f xs) (Text y) e = no e
node_same (Fun f xs) (Fun g ys) e =
    let p : f ≡ g = (bytes f g).0 (first_of_two (pointwise nat_eq f g) (pointwise nat_eq xs ys) e) in
    let q : xs ≡ ys = (bytes xs ys).0 (second_of_two (pointwise nat_eq f g) (pointwise nat_eq xs ys) e) in
    λ i. Fun (p i) (q i)

pub node_itself : (x : Node) → node_eq x x ≡ true
node_itself (Int x) = (signed_Decides x x).1 refl
node_itself (Symbol x) = (bytes x x).1 refl
node_itself (Text x) = (bytes x x).1 refl
node_itself (Fun f xs) = both (pointwise nat_eq f f) (pointwise nat_eq xs xs) ((bytes f f).1 refl) ((bytes xs xs).1 refl)

pub node_equal : (x y : Node) → x ≡ y → node_eq x y ≡ true
node_equal x y e = ap (node_eq x) (sym e) ∙ node_itself x

pub node_equivalence : IsEquivalence node_eq
node_equivalence = record {
  refl = node_itself;
  symm = λ x y. both_ways (node_eq x y) (node_eq y x) (λ e. node_equal y x (sym (node_same x y e))) (λ e. node_equal x y (sym (node_same y x e)));
  congr = λ x y z e. ap (λ w. node_eq w z) (node_same x y e);
}
