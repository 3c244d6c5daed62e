-- Rules without aggregates: no atom is a member, so there is one numbering, without numbers.
use Rattle.std.specs.Prelude.{◌≡◌, ℕ, Bool, true, List, [], ◌∷◌, Option}
use Rattle.std.proofs.Common.{true≢false}
use Rattle.alpha_outside.specs.declared.node.Node.{Node}
use Rattle.alpha_outside.specs.declared.pred.Pred.{Pred}
use Rattle.alpha_outside.specs.declared.maker.Maker.{Maker}
use Rattle.alpha_outside.specs.declared.pattern.Pattern.{Pattern}
use Rattle.search_values.specs.Instances.{Instance, IsFounded, IsOrdered, Rules}

-- the instance of each maker, and what a journal says of atoms and makers. Only user atoms may be named, since all others are of aggregates
pub record Ground (A K : Type 0) : Type 0 where
  pub instance_of : K → Option (Instance A)
  pub same_maker : K → K → Bool
  pub same_atom : A → A → Bool
  pub is_user : A → Bool
  pub in_line_order : List A → Bool
  pub names_atom : List Node → Pred → List ℕ → A → Bool
  pub names_maker : List Node → Maker → K → Bool
  pub fits : List Node → Pattern → A → Bool
  pub atom_itself : (a : A) → same_atom a a ≡ true
  pub atoms_same : (a b : A) → same_atom a b ≡ true → a ≡ b
  pub makers_same : (m m' : K) → same_maker m m' ≡ true → instance_of m ≡ instance_of m'

-- where no instance uses a number, a list that founds a set is ordered
pub founded_ordered : {A K : Type 0} (core : K → Option (Instance A)) (c : A → Bool) (order : List A) → IsFounded core c order → IsOrdered core (λ m. []) c order
founded_ordered core c [] founded = tt
founded_ordered core c (a ∷ earlier) founded = (
  (founded.0.0, founded.0.1, founded.0.2, founded.0.3, founded.0.4, founded.0.5, (λ u none in_set. absurd none)),
  founded.2,
  founded_ordered core c earlier founded.3,
)

-- the rules of a search over these instances
abbrev pub numberless : {A K : Type 0} → Ground A K → Rules (Unit {0}) A K
numberless g = record {
  instance_of = λ n m. g.instance_of m;
  same_maker = g.same_maker;
  same_atom = g.same_atom;
  no_numbers = tt;
  give = λ n a. tt;
  next_number = λ n a. 0;
  is_numbered = λ n a. true;
  may_be_named = λ n a. g.is_user a;
  is_user = g.is_user;
  in_line_order = g.in_line_order;
  names_atom = g.names_atom;
  names_maker = g.names_maker;
  fits = g.fits;
  uses = λ n m. [];
  atom_itself = g.atom_itself;
  atoms_same = g.atoms_same;
  makers_same = λ n m m' same. g.makers_same m m' same;
  user_named = λ n a user. user;
  instance_given = λ n a m i waits made. made;
  named_given = λ n a b waits named. named;
  made_before = λ n n' c m i extends made numbered. made;
  used_is_in = λ n n' c m i u extends made used waits. absurd used;
  ordered = λ n c answers. (answers.order, answers.all_there, founded_ordered g.instance_of c answers.order answers.founded);
  without = λ n a n' c waits extends answers. absurd (true≢false waits);
}
