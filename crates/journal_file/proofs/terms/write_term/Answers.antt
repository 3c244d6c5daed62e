use Rattle.std.proofs.Common.{false, sym, ap, subst, refl, ◌∙◌, ◌++◌, append_assoc}
use Rattle.std.specs.Prelude.{codes}
use Rattle.journal_file.specs.Terms.{IsTermWritten}
use Rattle.journal_file.proofs.WriteLemmas.{call_opened}
use Rattle.journal_file.proofs.terms.write_term.Goals as goal

pub returns-in_ok-push-in-Fun : goal.returns-in_ok-push-in-Fun
returns-in_ok-push-in-Fun c =
    let t = c.args.text.now.items in
    let t' = c.extend_from_slice-in-Fun.new.self.items in
    let s = c.args.stack.now.items in
    subst (λ x. IsTermWritten x t s t' c.push.new.self.items) (sym c.in-Fun.is)
    (call_opened c.in-Fun.name c.in-Fun.args t s (record { args = c.as_slice.result; begun = false }) t' c.push.new.self.items c.as_slice.ensures refl
    (c.in_ok-extend_from_slice-in-Fun-2.ensures.items ∙ ap (λ l. l ++ codes "(") (c.in_ok-extend_from_slice-in-Fun.ensures.items ∙ ap (λ l. t ++ l) c.as_bytes.ensures) ∙ append_assoc t c.in-Fun.name (codes "("))
    c.in_ok-push-in-Fun.ensures.items)
