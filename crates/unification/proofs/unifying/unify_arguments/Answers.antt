use Rattle.std.proofs.Common.{◌≡◌, ◌+◌, ◌∙◌, ℕ, List, map, take, length, Some, refl, sym, ap, subst, arith}
use Rattle.lists.specs.Lists.{Each}
use Rattle.lists.proofs.ListLemmas.{Each-map}
use Rattle.unification.specs.Patterns.{Holes, IsPatternTerm, put, later_by}
use Rattle.unification.specs.Solving.{Solves, SolvedOrNot, IsSolution, IsEquationOf, equations_of}
use Rattle.unification.specs.Unifiers.{ArgumentsUnified}
use Rattle.unification.proofs.Openings.{fine_kept}
use Rattle.unification.proofs.Unifier.{opened_many, own_known, todo_formed, no_unifier, most_general, firsts_formed}
use Rattle.unification.proofs.unifying.unify_arguments.Goals as goal

pub equations-requires : goal.equations-requires
equations-requires c = record {
  many = ap length c.as_slice.ensures ∙ opened_many c.opened_all.new.pool c.args.variables c.opened_all.new.next c.args.args.now c.in_ok-left.left c.in_ok-left.ensures.opened ∙ c.requires.many;
}

pub solve-requires-clause-known : goal.solve-requires-clause-known
solve-requires-clause-known c = own_known c.opened_all.new.pool c.args.variables c.opened_all.new.next c.in-Some.holes c.in-Some-checked_add.many c.args.args.now c.args.pattern.now c.in_ok-left.left c.in_ok-terms.terms.items
    c.in-Some-checked_add.ensures.1 c.requires.below c.in_ok-left.ensures.opened
    (Each-map (IsPatternTerm (length c.args.pool.now)) (IsPatternTerm (length c.opened_all.new.pool)) (fine_kept c.args.pool.now c.opened_all.new.pool c.in_ok-left.ensures.kept) c.args.pattern.now c.requires.formed)
    (c.in-Some.ensures c.in-Some.holes refl) c.in_ok-terms.ensures c.requires.many

pub solve-requires-clause-formed : goal.solve-requires-clause-formed
solve-requires-clause-formed c =
    let todo : c.in_ok-todo.todo.items ≡ equations_of c.in_ok-left.left (map (put (later_by c.opened_all.new.next)) c.args.pattern.now) = c.in_ok-todo.ensures ∙ ap (λ l. equations_of l (map (put (later_by c.opened_all.new.next)) c.args.pattern.now)) c.as_slice.ensures in
    subst (Each (IsEquationOf (length c.in_ok-terms.terms.items) (length c.opened_all.new.pool))) (sym todo) (todo_formed c.opened_all.new.pool c.args.variables c.opened_all.new.next c.in-Some.holes c.in-Some-checked_add.many c.args.args.now c.args.pattern.now c.in_ok-left.left c.in_ok-terms.terms.items
    c.in-Some-checked_add.ensures.1 c.requires.below c.in_ok-left.ensures.opened
    (Each-map (IsPatternTerm (length c.args.pool.now)) (IsPatternTerm (length c.opened_all.new.pool)) (fine_kept c.args.pool.now c.opened_all.new.pool c.in_ok-left.ensures.kept) c.args.pattern.now c.requires.formed)
    (c.in-Some.ensures c.in-Some.holes refl) c.in_ok-terms.ensures c.requires.many)

pub returns-then-not-branch-clause-found : goal.returns-then-not-branch-clause-found
returns-then-not-branch-clause-found c = λ head p head_args pattern_args pred_same.
    let todo : c.in_ok-todo.todo.items ≡ equations_of c.in_ok-left.left (map (put (later_by c.opened_all.new.next)) c.args.pattern.now) = c.in_ok-todo.ensures ∙ ap (λ l. equations_of l (map (put (later_by c.opened_all.new.next)) c.args.pattern.now)) c.as_slice.ensures in
    no_unifier c.opened_all.new.pool c.args.variables c.opened_all.new.next c.in-Some.holes c.in-Some-checked_add.many c.args.args.now c.args.pattern.now c.in_ok-left.left c.in_ok-terms.terms.items
    c.in-Some-checked_add.ensures.1 c.requires.below c.in_ok-left.ensures.opened
    (Each-map (IsPatternTerm (length c.args.pool.now)) (IsPatternTerm (length c.opened_all.new.pool)) (fine_kept c.args.pool.now c.opened_all.new.pool c.in_ok-left.ensures.kept) c.args.pattern.now c.requires.formed)
    (c.in-Some.ensures c.in-Some.holes refl) c.in_ok-terms.ensures c.requires.many
    head p head_args pattern_args pred_same
    (subst (λ es. (h : Holes) → ¬ Solves c.opened_all.new.pool h c.in_ok-terms.terms.items es) todo
    (subst (SolvedOrNot c.opened_all.new.pool c.in_ok-terms.terms.items c.in_ok-todo.todo.items c.solve.new.terms.items) c.if-not-branch.true c.in_ok-solve.ensures))

pub returns-clause-found : goal.returns-clause-found
returns-clause-found c =
    let todo : c.in_ok-todo.todo.items ≡ equations_of c.in_ok-left.left (map (put (later_by c.opened_all.new.next)) c.args.pattern.now) = c.in_ok-todo.ensures ∙ ap (λ l. equations_of l (map (put (later_by c.opened_all.new.next)) c.args.pattern.now)) c.as_slice.ensures in
    let sol : IsSolution c.opened_all.new.pool c.in_ok-terms.terms.items c.in_ok-todo.todo.items c.solve.new.terms.items =
    subst (SolvedOrNot c.opened_all.new.pool c.in_ok-terms.terms.items c.in_ok-todo.todo.items c.solve.new.terms.items) c.if-not-branch.false c.in_ok-solve.ensures in
    subst (λ l. ArgumentsUnified c.opened_all.new.pool c.args.variables c.args.args.now c.args.pattern.now (Some l)) (sym c.in_ok-first_of.ensures) (λ head p head_args pattern_args pred_same. (
      firsts_formed c.opened_all.new.pool c.solve.new.terms.items c.args.variables sol.known,
      most_general c.opened_all.new.pool c.args.variables c.opened_all.new.next c.in-Some.holes c.in-Some-checked_add.many c.args.args.now c.args.pattern.now c.in_ok-left.left c.in_ok-terms.terms.items
          c.in-Some-checked_add.ensures.1 c.requires.below c.in_ok-left.ensures.opened
          (Each-map (IsPatternTerm (length c.args.pool.now)) (IsPatternTerm (length c.opened_all.new.pool)) (fine_kept c.args.pool.now c.opened_all.new.pool c.in_ok-left.ensures.kept) c.args.pattern.now c.requires.formed)
          (c.in-Some.ensures c.in-Some.holes refl) c.in_ok-terms.ensures c.requires.many
          head p head_args pattern_args pred_same c.solve.new.terms.items
          (subst (λ es. IsSolution c.opened_all.new.pool c.in_ok-terms.terms.items es c.solve.new.terms.items) todo sol),
    ))
