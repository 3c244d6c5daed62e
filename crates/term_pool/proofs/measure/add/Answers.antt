use Rattle.std.proofs.Common.{refl, sym, subst, ◌∙◌, arith}
use Rattle.alpha_outside.specs.Nodes.{node_eq}
use Rattle.indexmap.proofs.CallerLemmas.{insert_entry-new}
use Rattle.term_pool.specs.Measured.{IsAdded}
use Rattle.term_pool.proofs.measure.add.Goals as goal
use Rattle.term_pool.proofs.measure.add.Goals.{in-Ok, in-Err}

pub returns : goal.returns
returns c =
    elim c.match-insert.branch [
      | in-Ok w ↦ subst (IsAdded c.args.table.now.entries c.insert.new.self.entries c.args.node c.args.measure) (sym w.result-is) (
        c.len-place.ensures.len,
        omega (arith, c.len-place.ensures.len, c.if-place-ge-MOST_NODES.false),
        w.in-Ok.ensures.entries ∙ insert_entry-new node_eq c.args.table.now c.args.node c.args.measure c.requires,
      )
      | in-Err w ↦ subst (IsAdded c.args.table.now.entries c.insert.new.self.entries c.args.node c.args.measure) (sym w.result-is) (refl, w.in-Err.ensures.err)
    ]
