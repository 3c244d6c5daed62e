-- First bad members of lists.
use Rattle.std.proofs.Common.{refl, sym, ap, ◌∙◌, List, [], ◌∷◌, ◌++◌, append_assoc}
use Rattle.lists.specs.Lists.{Each}
use Rattle.lists.proofs.ListLemmas.{Each-append}
use Rattle.asp_strata.specs.Firsts.{IsFirstBad}

pub first_left : {A : Type 0} (Good : A → Type 0) (xs ys : List A) (x : A) → IsFirstBad Good xs x → IsFirstBad Good (xs ++ ys) x
first_left Good xs ys x f = record {
  front = f.front;
  back = f.back ++ ys;
  stands = ap (λ zs. zs ++ ys) f.stands ∙ append_assoc f.front (x ∷ f.back) ys;
  good = f.good;
  bad = f.bad;
}

pub first_right : {A : Type 0} (Good : A → Type 0) (xs ys : List A) (x : A) → Each Good xs → IsFirstBad Good ys x → IsFirstBad Good (xs ++ ys) x
first_right Good xs ys x good f = record {
  front = xs ++ f.front;
  back = f.back;
  stands = ap (λ zs. xs ++ zs) f.stands ∙ sym (append_assoc xs f.front (x ∷ f.back));
  good = Each-append Good xs f.front good f.good;
  bad = f.bad;
}

pub first_here : {A : Type 0} (Good : A → Type 0) (x : A) (xs : List A) → ¬ Good x → IsFirstBad Good (x ∷ xs) x
first_here Good x xs bad = record { front = []; back = xs; stands = refl; good = tt; bad = bad }

pub first_later : {A : Type 0} (Good : A → Type 0) (x y : A) (xs : List A) → Good x → IsFirstBad Good xs y → IsFirstBad Good (x ∷ xs) y
first_later Good x y xs good f = record { front = x ∷ f.front; back = f.back; stands = ap (λ zs. x ∷ zs) f.stands; good = (good, f.good); bad = f.bad }
