-- The variables of terms and statements, part by part.
use Rattle.std.proofs.Common.{◌≡◌, refl, sym, ap, ◌∙◌, List, [], ◌∷◌, ◌++◌, map, append_assoc}
use Rattle.lists.specs.Lists.{concat}
use Rattle.asp_syntax.specs.declared.tree.Item.{Item}
use Rattle.asp_syntax.specs.declared.tree.Statement.{Statement}
use Rattle.asp_meaning.specs.Variables.{variables, item_terms, head_terms, global_variables}
use Rattle.asp_safety.specs.Binding.{variables_of, item_variables, body_variables}

-- what a list gives that is put together from two
pub concat_map-append : {A B : Type 0} (f : A → List B) (xs ys : List A) → concat (map f (xs ++ ys)) ≡ concat (map f xs) ++ concat (map f ys)
concat_map-append f [] ys = refl
concat_map-append f (x ∷ xs) ys = ap (λ zs. f x ++ zs) (concat_map-append f xs ys) ∙ sym (append_assoc (f x) (concat (map f xs)) (concat (map f ys)))

variables_of-concat : (body : List Item) → variables_of (concat (map item_terms body)) ≡ body_variables body
variables_of-concat [] = refl
variables_of-concat (i ∷ body) = concat_map-append variables (item_terms i) (concat (map item_terms body)) ∙ ap (λ vs. item_variables i ++ vs) (variables_of-concat body)

-- the global variables are those of the head and then those of the body
pub globals_in_parts : (s : Statement) → global_variables s ≡ variables_of (head_terms s.head) ++ body_variables s.body
globals_in_parts s = concat_map-append variables (head_terms s.head) (concat (map item_terms s.body)) ∙ ap (λ vs. variables_of (head_terms s.head) ++ vs) (variables_of-concat s.body)
