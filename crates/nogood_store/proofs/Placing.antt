-- How an answer tells what a nogood says.
use Rattle.std.proofs.Common.{List, refl, sym, subst}
use Rattle.alpha_outside.specs.declared.literal.Value.TheVariants.{True, MustBe, False}
use Rattle.search_values.specs.declared.entry.Entry.{Entry}
use Rattle.search_values.specs.Nogoods.{Gives}
use Rattle.nogood_store.specs.Stored.{Stored, nogood_of}
use Rattle.nogood_store.specs.Visits.{SaysIs, VisitIs, IsPlaced, AnswerIs}
use Rattle.nogood_store.specs.declared.looking.Says.{Says}
use Rattle.nogood_store.specs.declared.looking.Says.TheVariants.{Nothing, Follows, Conflict}
use Rattle.nogood_store.specs.declared.looking.Visit.{Visit}

-- what follows is a value of the atom of one of the literals
pub is_placed : (stack : List Entry) (s : Stored) (says : Says) → SaysIs stack (nogood_of s) says → IsPlaced s.lits says
is_placed stack s Nothing x = tt
is_placed stack s (Follows a True) r = (_, r.among, refl)
is_placed stack s (Follows a MustBe) r = (_, r.0.among, refl)
is_placed stack s (Follows a False) r = (_, r.among, refl)
is_placed stack s Conflict x = tt

-- the answer is exact where what the nogood says is
pub visit_is : (stack : List Entry) (s : Stored) (says : Says) (answer : Visit) → SaysIs stack (nogood_of s) says → AnswerIs s.lits says answer → VisitIs stack s answer
visit_is stack s Nothing answer x e = subst (λ (v : Visit). VisitIs stack s v) (sym e) x
visit_is stack s (Follows a v) answer x w = subst (λ (y : Visit). VisitIs stack s y) (sym w.2) (w.1, w.3, subst (λ n. Gives stack (nogood_of s) n v) (sym w.4) x)
visit_is stack s Conflict answer x e = subst (λ (v : Visit). VisitIs stack s v) (sym e) x
