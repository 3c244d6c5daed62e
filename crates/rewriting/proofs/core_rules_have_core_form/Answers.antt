use Rattle.rewriting.proofs.CoreForm.{has_core_form}
use Rattle.rewriting.proofs.NamesKept.{keeps_names}
use Rattle.rewriting.proofs.core_rules_have_core_form.Goals as goal

pub returns-clause-form : goal.returns-clause-form
returns-clause-form c = has_core_form

pub returns-clause-names : goal.returns-clause-names
returns-clause-names c = keeps_names
