use Rattle.std.proofs.Common.{arith}
use Rattle.asp_lexer.proofs.LoopTurns.{feeds-add, skip_fits, token_fits, skip_turn, token_turn, bad_turn, large_turn, spanned_is, end_turn}
use Rattle.asp_lexer.proofs.lexer.read_all.Goals as goal

pub feeds_in-line-requires-clause-within : goal.feeds_in-line-requires-clause-within
feeds_in-line-requires-clause-within c =
    (skip_fits c.args.text.now c.rest_from-rest.result.now c.turns.at _ c.rest_from-rest.ensures c.in-Ok.ensures _ c.in-Skipped.is).1

pub overflow_add-at : goal.overflow_add-at
overflow_add-at c =
    let fits = skip_fits c.args.text.now c.rest_from-rest.result.now c.turns.at _ c.rest_from-rest.ensures c.in-Ok.ensures _ c.in-Skipped.is in
    let within = fits.2 c.turns.invariant.within in
    omega (arith, within)

pub turns-smaller-in-Skipped : goal.turns-smaller-in-Skipped
turns-smaller-in-Skipped c =
    let fits = skip_fits c.args.text.now c.rest_from-rest.result.now c.turns.at _ c.rest_from-rest.ensures c.in-Ok.ensures _ c.in-Skipped.is in
    let some = fits.0 in
    omega (arith, some)

pub turns-preserved-in-Skipped : goal.turns-preserved-in-Skipped
turns-preserved-in-Skipped c =
    let fits = skip_fits c.args.text.now c.rest_from-rest.result.now c.turns.at _ c.rest_from-rest.ensures c.in-Ok.ensures _ c.in-Skipped.is in
    let within = fits.2 c.turns.invariant.within in
    let feeds = feeds-add c.args.text.now c.rest_from-rest.result.now c.turns.at c.in-Skipped.len c.rest_from-rest.ensures in
    record {
      within = within;
      line = omega (arith, feeds, c.turns.invariant.line, c.feeds_in-line.ensures.is);
      few = omega (arith, c.turns.invariant.few, c.feeds_in-line.ensures.most);
      left = skip_turn c.args.text.now c.rest_from-rest.result.now c.turns.at _ c.rest_from-rest.ensures c.in-Ok.ensures c.in-Skipped.len c.turns.tokens c.in-Skipped.is c.turns.invariant.left;
    }

pub feeds_in-line-requires-in-Token-clause-within : goal.feeds_in-line-requires-in-Token-clause-within
feeds_in-line-requires-in-Token-clause-within c =
    (token_fits c.args.text.now c.rest_from-rest.result.now c.turns.at _ c.rest_from-rest.ensures c.in-Ok.ensures _ _ c.in-Token.is).1

pub overflow_add-at-in-Token : goal.overflow_add-at-in-Token
overflow_add-at-in-Token c =
    let fits = token_fits c.args.text.now c.rest_from-rest.result.now c.turns.at _ c.rest_from-rest.ensures c.in-Ok.ensures _ _ c.in-Token.is in
    let within = fits.2 c.turns.invariant.within in
    omega (arith, within)

pub turns-smaller : goal.turns-smaller
turns-smaller c =
    let fits = token_fits c.args.text.now c.rest_from-rest.result.now c.turns.at _ c.rest_from-rest.ensures c.in-Ok.ensures _ _ c.in-Token.is in
    let some = fits.0 in
    omega (arith, some)

pub turns-preserved : goal.turns-preserved
turns-preserved c =
    let fits = token_fits c.args.text.now c.rest_from-rest.result.now c.turns.at _ c.rest_from-rest.ensures c.in-Ok.ensures _ _ c.in-Token.is in
    let within = fits.2 c.turns.invariant.within in
    let feeds = feeds-add c.args.text.now c.rest_from-rest.result.now c.turns.at c.in-Token.len c.rest_from-rest.ensures in
    record {
      within = within;
      line = omega (arith, feeds, c.turns.invariant.line, c.feeds_in-line-in-Token.ensures.is);
      few = omega (arith, c.turns.invariant.few, c.feeds_in-line-in-Token.ensures.most);
      left = token_turn c.args.text.now c.rest_from-rest.result.now c.turns.at _ c.rest_from-rest.ensures c.in-Ok.ensures c.in-Token.token c.in-Token.len _ c.turns.tokens c.push.new.self c.in-Token.is
          (spanned_is c.args.text.now c.turns.at c.turns.line c.in-Token.token c.turns.invariant.within c.turns.invariant.line) c.in-Ok-push.ensures.ok c.turns.invariant.left;
    }

pub returns-in-TooLarge : goal.returns-in-TooLarge
returns-in-TooLarge c = large_turn c.args.text.now c.rest_from-rest.result.now c.turns.at _ c.rest_from-rest.ensures c.in-Ok.ensures _ c.turns.tokens c.in-TooLarge.is c.turns.invariant.within c.turns.invariant.left

pub returns-in-Bad : goal.returns-in-Bad
returns-in-Bad c = bad_turn c.args.text.now c.rest_from-rest.result.now c.turns.at _ c.rest_from-rest.ensures c.in-Ok.ensures c.turns.tokens c.in-Bad.is c.turns-test.true c.turns.invariant.left

pub returns : goal.returns
returns c = end_turn c.args.text.now c.turns.at c.turns.tokens c.turns-test.false c.turns.invariant.left
