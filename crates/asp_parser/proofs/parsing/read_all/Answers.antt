use Rattle.std.proofs.Common.{◌≡◌, ◌≤◌, ◌<◌, length, take, refl, sym, ap, subst, ◌∙◌}
use Rattle.std.specs.Prelude.{Some, slice_get}
use Rattle.std.proofs.lemmas.Option.{slice_get_read}
use Rattle.asp_grammar.specs.Nesting.{levels_of, depth, deepest}
use Rattle.asp_parser.proofs.LoopLemmas.{nested_through, next_levels, next_sound, next_count, refused_first, deep_fault, ended_parsed, ended_stopped}
use Rattle.asp_parser.proofs.parsing.read_all.Goals as goal

pub returns-in-Err : goal.returns-in-Err
returns-in-Err c =
    let i = c.loop-token.token-index in
    let xs = c.args.tokens.now in
    let t = c.token-item.result in
    let here : slice_get xs i ≡ Some t = slice_get_read xs (length xs) i t refl c.loop-token-test.true c.token-item.is in
    refused_first xs i c.loop-token.count c.loop-token.progress t c.loop-token.invariant.sound here c.args.end c.in-Err.fault c.in-Err.ensures.refused

pub returns-then-nesting-gt-DEEPEST : goal.returns-then-nesting-gt-DEEPEST
returns-then-nesting-gt-DEEPEST c =
    let i = c.loop-token.token-index in
    let xs = c.args.tokens.now in
    let t = c.token-item.result in
    let here : slice_get xs i ≡ Some t = slice_get_read xs (length xs) i t refl c.loop-token-test.true c.token-item.is in
    let n = c.in_ok-nesting.nesting in
    let levels = nested_through (take i xs) t (levels_of c.loop-token.nesting.operators c.loop-token.nesting.outside) (levels_of n.operators n.outside) c.loop-token.invariant.levels c.in_ok-nesting.ensures.levels in
    let deep = subst (λ v. deepest < v) (c.in_ok-nesting.ensures.depth ∙ ap depth levels) c.if-nesting-gt-DEEPEST.true in
    deep_fault xs i c.loop-token.count c.loop-token.progress t c.loop-token.invariant.sound here c.args.end c.in-Ok.next c.in-Ok.ensures.taken deep

pub loop-token-preserved : goal.loop-token-preserved
loop-token-preserved c =
    let i = c.loop-token.token-index in
    let xs = c.args.tokens.now in
    let t = c.token-item.result in
    let here : slice_get xs i ≡ Some t = slice_get_read xs (length xs) i t refl c.loop-token-test.true c.token-item.is in
    let n = c.in_ok-nesting.nesting in
    let levels = nested_through (take i xs) t (levels_of c.loop-token.nesting.operators c.loop-token.nesting.outside) (levels_of n.operators n.outside) c.loop-token.invariant.levels c.in_ok-nesting.ensures.levels in
    let shallow = subst (λ v. v ≤ deepest) (c.in_ok-nesting.ensures.depth ∙ ap depth levels) c.if-nesting-gt-DEEPEST.false in
    record {
      sound = next_sound xs i c.loop-token.count c.loop-token.progress t c.loop-token.invariant.sound here c.in-Ok.next c.count_after-count.result c.count_after-count.ensures c.in-Ok.ensures.taken shallow;
      levels = next_levels xs i t here (levels_of n.operators n.outside) levels;
      depth = c.in_ok-nesting.ensures.depth;
      shallow = c.if-nesting-gt-DEEPEST.false;
      few = next_count c.loop-token.count i t.token c.count_after-count.result c.count_after-count.ensures c.loop-token.invariant.few;
    }

pub returns-in-Some : goal.returns-in-Some
returns-in-Some c =
    ended_parsed c.args.tokens.now c.loop-token.token-index c.loop-token.count c.loop-token.progress c.in-Some.program c.loop-token-test.false c.loop-token.invariant.sound (sym c.finish.ensures ∙ c.in-Some.is)

pub returns : goal.returns
returns c =
    ended_stopped c.args.tokens.now c.args.end c.loop-token.token-index c.loop-token.count c.loop-token.progress c.loop-token-test.false c.loop-token.invariant.sound (sym c.finish.ensures ∙ c.in-None.is)
