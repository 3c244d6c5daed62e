-- Lists that are built in loops.
use Rattle.std.proofs.Common.{◌≡◌, sym, ap, ◌∙◌, List, [], ◌∷◌, ◌++◌, map, append_assoc}

-- one turn of a loop that puts what the item gives at the end
pub map_on : {A B : Type 0} (f : A → B) (old left : List A) (x : A) (done more whole : List B) → old ≡ x ∷ left → more ≡ done ++ f x ∷ [] → done ++ map f old ≡ whole
    → more ++ map f left ≡ whole
map_on f old left x done more whole at m h = ap (λ ys. ys ++ map f left) m ∙ append_assoc done (f x ∷ []) (map f left) ∙ sym (ap (λ xs. done ++ map f xs) at) ∙ h
