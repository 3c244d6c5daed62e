use Rattle.std.proofs.Common.{rules, ◌≡◌, length, map, take, false, true≢false, refl, sym, ap, subst, ◌∙◌}
use Rattle.std.specs.Prelude.{IsTrue, ◌↔◌}
use Rattle.lists.specs.Lists.{Each}
use Rattle.unification.specs.Solving.{IsEquationOf, SolvedOrNot}
use Rattle.pattern_fitting.specs.Instances.{AreApart}
use Rattle.pattern_fitting.proofs.FittingLemmas.{own_known}
use Rattle.pattern_fitting.proofs.InstanceLemmas.{instances_formed, instances_where_apart, none_where_unsolved, as_many_instances}
use Rattle.pattern_fitting.proofs.instances.are_instances.Goals as goal

pub returns-then-terms-others : goal.returns-then-terms-others
returns-then-terms-others c = record {
  exact = (
    (λ no. absurd (let bad : ◌≡◌ {A = Rattle.std.proofs.Common.Bool} false Rattle.std.proofs.Common.true = no in cc)),
    (λ are. absurd (let same = as_many_instances c.args.pool.now c.args.terms.now c.args.others.now are in
        let other : ¬ (length c.args.terms.now ≡ length c.args.others.now) = search rules in other same)),
  );
}

pub solve-requires-clause-known : goal.solve-requires-clause-known
solve-requires-clause-known c = own_known c.args.pool.now c.in-Some.holes c.in_ok-known.known.items c.in_ok-known.ensures

pub solve-requires-clause-formed : goal.solve-requires-clause-formed
solve-requires-clause-formed c =
    let many : length c.args.terms.now ≡ length c.args.others.now = search rules in
    subst (Each (IsEquationOf (length c.in_ok-known.known.items) (length c.args.pool.now))) (sym c.in_ok-todo.ensures)
    (instances_formed c.args.pool.now c.args.first c.args.second c.in-Some.holes c.in_ok-known.known.items c.args.terms.now c.args.others.now
    c.in-Some.ensures.1 c.in_ok-known.ensures c.requires.formed c.requires.below c.requires.others_formed c.requires.others_below many)

pub returns-then-not-branch : goal.returns-then-not-branch
returns-then-not-branch c =
    let many : length c.args.terms.now ≡ length c.args.others.now = search rules in
    let unsolved = subst (SolvedOrNot c.args.pool.now c.in_ok-known.known.items c.in_ok-todo.todo.items c.solve.new.terms.items)
    c.if-not-branch.true c.in_ok-solve.ensures in
    record {
      exact = (
        (λ no. absurd (let bad : ◌≡◌ {A = Rattle.std.proofs.Common.Bool} false Rattle.std.proofs.Common.true = no in cc)),
        (λ are. absurd (none_where_unsolved c.args.pool.now c.args.first c.args.second c.in-Some.holes c.in_ok-known.known.items c.args.terms.now
            c.args.others.now c.in-Some.ensures.1 c.in_ok-known.ensures c.requires.formed c.requires.below c.requires.others_formed
            c.requires.others_below many
            (λ h s. unsolved h (subst (λ es. Rattle.unification.specs.Solving.Solves c.args.pool.now h c.in_ok-known.known.items es)
            (sym c.in_ok-todo.ensures) s)) are)),
      );
    }

pub returns : goal.returns
returns c =
    let many : length c.args.terms.now ≡ length c.args.others.now = search rules in
    let solved = subst (SolvedOrNot c.args.pool.now c.in_ok-known.known.items c.in_ok-todo.todo.items c.solve.new.terms.items)
    c.if-not-branch.false c.in_ok-solve.ensures in
    let solution = subst (λ es. Rattle.unification.specs.Solving.IsSolution c.args.pool.now c.in_ok-known.known.items es c.solve.new.terms.items)
    c.in_ok-todo.ensures solved in
    record {
      exact = instances_where_apart c.args.pool.now c.args.first c.args.second c.in-Some.holes c.in_ok-known.known.items c.args.terms.now
          c.args.others.now c.in-Some.ensures.1 c.in_ok-known.ensures c.requires.formed c.requires.below c.requires.others_formed
          c.requires.others_below many c.solve.new.terms.items solution c.are_apart.result
          (subst (λ ts. IsTrue c.are_apart.result ↔ AreApart ts) (search rules) c.are_apart.ensures);
    }
