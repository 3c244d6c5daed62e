use Rattle.std.proofs.Common.{◌≡◌, ◌+◌, ◌-◌, sym, ◌∙◌, subst, arith, true, false, List, ℕ}
use Rattle.std.proofs.lemmas.Result.{err_from_is_err_and, on_ok_weaker}
use Rattle.lists.specs.Lists.{◌∈◌}
use Rattle.asp_meaning.specs.Lines.{IsSetLine}
use Rattle.search_state.specs.Moves.{AreTrueIds}
use Rattle.search_journals.specs.Standing.{Stands}
use Rattle.search_journals.proofs.Stepping.{err_on}
use Rattle.search_journals.proofs.Showing.{leaves_now, kept_here}
use Rattle.enumerator.proofs.showing.find.Goals as goal

pub set_line-requires : goal.set_line-requires
set_line-requires g c = subst (λ (xs : List ℕ). AreTrueIds c.args.search.now xs) (sym c.as_slice.ensures.value) c.in-Ok.ensures

pub returns-in_default-clause-err : goal.returns-in_default-clause-err
returns-in_default-clause-err g c =
    λ rest g' fits lists s. leaves_now c.args.search.now _ _ _ (0, 0) (0, 0) g' fits c.args.left.now rest
    (kept_here (g.O.Sink.held c.args.out.now)) c.requires.room s

pub returns-in_default-set_line-clause-err : goal.returns-in_default-set_line-clause-err
returns-in_default-set_line-clause-err g c =
    λ rest g' fits lists s. leaves_now c.args.search.now _ _ _ (0, 0) (0, 0) g' fits c.args.left.now rest
    (kept_here (g.O.Sink.held c.args.out.now)) c.requires.room s

pub pass-requires-clause-atoms : goal.pass-requires-clause-atoms
pass-requires-clause-atoms g c =
    let line : IsSetLine c.in-Ok.ensures.set c.as_slice-then-has.result.now = rw c.as_slice-then-has.ensures
    (c.in-Ok-set_line.ensures c.in-Ok.ensures.set (rw c.as_slice.ensures.value c.in-Ok.ensures.names)) in
    (c.in-Ok.ensures, line)

pub returns-then-has-clause-carries : goal.returns-then-has-clause-carries
returns-then-has-clause-carries g c =
    let same : c.as_slice-2.result.now ≡ c.as_slice-then-has.result.now = c.as_slice-2.ensures ∙ sym c.as_slice-then-has.ensures in
    let among = subst (λ (l : List ℕ). l ∈ c.args.book.now) same (c.has.ensures.there.0 c.if-has.true) in
    on_ok_weaker c.pass.result (λ carries rest. carries c.args.book.now among _ c.args.left.now rest) c.pass.ensures.carries

pub returns-then-has-clause-err : goal.returns-then-has-clause-err
returns-then-has-clause-err g c = err_on c.pass.result
    (λ f fault rest g' fits lists s. fault g' fits _ c.args.left.now rest c.requires.room s (_, _)) c.pass.ensures.err

pub show-requires-clause-atoms : goal.show-requires-clause-atoms
show-requires-clause-atoms g c =
    let line : IsSetLine c.in-Ok.ensures.set c.as_slice-3.result.now = rw c.as_slice-3.ensures
    (c.in-Ok-set_line.ensures c.in-Ok.ensures.set (rw c.as_slice.ensures.value c.in-Ok.ensures.names)) in
    (c.in-Ok.ensures, line)

pub returns-in_err-show-clause-err : goal.returns-in_err-show-clause-err
returns-in_err-show-clause-err g c =
    let same : c.as_slice-3.result.now ≡ c.as_slice-2.result.now = c.as_slice-3.ensures ∙ sym c.as_slice-2.ensures in
    let out : ¬ (c.as_slice-3.result.now ∈ c.args.book.now) = (λ i.
    let yes : c.has.result ≡ true = c.has.ensures.there.1 (subst (λ (l : List ℕ). l ∈ c.args.book.now) same i) in
    let no : c.has.result ≡ false = c.if-has.false in
    let bad : true ≡ false = sym yes ∙ no in
    cc) in
    let p = err_from_is_err_and c.from_residual.result c.from_residual.ensures.1 in
    rw (p.1, p.2) (λ rest g' fits lists s. c.in_err-show.ensures.err c.args.book.now out g' fits lists c.args.left.now rest c.requires.room s)

pub returns-clause-carries : goal.returns-clause-carries
returns-clause-carries g c =
    let same : c.as_slice-3.result.now ≡ c.as_slice-2.result.now = c.as_slice-3.ensures ∙ sym c.as_slice-2.ensures in
    let out : ¬ (c.as_slice-3.result.now ∈ c.args.book.now) = (λ i.
    let yes : c.has.result ≡ true = c.has.ensures.there.1 (subst (λ (l : List ℕ). l ∈ c.args.book.now) same i) in
    let no : c.has.result ≡ false = c.if-has.false in
    let bad : true ≡ false = sym yes ∙ no in
    cc) in
    let room = c.requires.room in
    let whole : c.args.left.now - 1 + 1 ≡ c.args.left.now = omega (arith, room) in
    λ rest g' fits lists s. c.in_ok-show.ensures.carries c.args.book.now out (c.args.left.now - 1) rest g' fits lists
    (subst (λ z. Stands g' c.args.search.now (g.T.Trace.journal c.args.trace.now) (g.O.Sink.held c.args.out.now) z rest) (sym whole) s)
