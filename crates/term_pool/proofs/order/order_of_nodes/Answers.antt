use Rattle.std.proofs.Common.{ap, arith}
use Rattle.term_pool.proofs.CompareLemmas.{two_ints, two_symbols, two_texts, kind, earlier_kind, later_kind, other_than_int, symbol_before, text_after, call_after}
use Rattle.term_pool.proofs.order.order_of_nodes.Goals as goal

pub returns-in-Int-y : goal.returns-in-Int-y
returns-in-Int-y c = two_ints c.args.x.now c.args.y.now c.in-Int.m c.in-Int-y.n c.cmp.result c.in-Int.is c.in-Int-y.is c.cmp.ensures

pub returns-in_default : goal.returns-in_default
returns-in_default c = other_than_int c.in-Int.m c.args.x.now c.args.y.now c.requires.right c.in-Int.is c.in_default.not-Int

pub returns-in-Int-y-2 : goal.returns-in-Int-y-2
returns-in-Int-y-2 c = later_kind c.args.x.now c.args.y.now c.requires.left c.requires.right (omega (arith, ap kind c.in-Symbol.is, ap kind c.in-Int-y-2.is))

pub returns-in-Symbol-y : goal.returns-in-Symbol-y
returns-in-Symbol-y c = two_symbols c.args.x.now c.args.y.now c.in-Symbol.s c.in-Symbol-y.t c.cmp-in-Symbol-y.result c.in-Symbol.is c.in-Symbol-y.is c.cmp-in-Symbol-y.ensures

pub returns-in_default-y : goal.returns-in_default-y
returns-in_default-y c = symbol_before c.in-Symbol.s c.args.x.now c.args.y.now c.requires.right c.in-Symbol.is c.in_default-y.not-Int c.in_default-y.not-Symbol

pub returns-in-Text-y : goal.returns-in-Text-y
returns-in-Text-y c = two_texts c.args.x.now c.args.y.now c.in-Text.s c.in-Text-y.t c.cmp-in-Text-y.result c.in-Text.is c.in-Text-y.is c.cmp-in-Text-y.ensures

pub returns-in-Fun-y : goal.returns-in-Fun-y
returns-in-Fun-y c = earlier_kind c.args.x.now c.args.y.now c.requires.left c.requires.right (omega (arith, ap kind c.in-Text.is, ap kind c.in-Fun-y.is))

pub returns-in_default-y-2 : goal.returns-in_default-y-2
returns-in_default-y-2 c = text_after c.in-Text.s c.args.x.now c.args.y.now c.requires.right c.in-Text.is c.in_default-y-2.not-Text c.in_default-y-2.not-Fun

pub returns-in_default-y-3 : goal.returns-in_default-y-3
returns-in_default-y-3 c = call_after c.in-Fun.f c.in-Fun.xs c.args.x.now c.args.y.now c.requires.left c.requires.right c.in-Fun.is c.in_default-y-3.not-Fun
