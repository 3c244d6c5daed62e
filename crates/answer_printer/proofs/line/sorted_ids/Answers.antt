use Rattle.std.proofs.Common.{subst, ℕ, List, rules}
use Rattle.std.specs.List.Sorted.{IsPermutation}
use Rattle.asp_meaning.specs.Lines.{atom_cmp}
use Rattle.atom_pool.specs.Meanings.{atom_at}
use Rattle.asp_meaning.proofs.AtomOrder.{atom_cmp_total}
use Rattle.answer_printer.proofs.SortLemmas.{sorted_by_key, permuted_members}
use Rattle.answer_printer.proofs.LineLemmas.{sorted_in_order}
use Rattle.answer_printer.proofs.line.sorted_ids.Goals as goal

pub returns : goal.returns
returns c =
    let ids : List ℕ = c.sort_unstable_by.new.self.items in
    let moved : IsPermutation c.args.atoms.now ids = subst (λ l. IsPermutation l ids) c.in_ok-sorted.ensures.items c.sort_unstable_by.ensures.permutation in
    record {
      same = permuted_members c.args.atoms.now ids moved;
      in_order = sorted_in_order c.args.terms.now c.args.pool.now c.requires.terms c.len.ensures.pool c.requires.beside c.args.atoms.now ids c.requires.user c.requires.distinct moved
          (sorted_by_key atom_cmp atom_cmp_total (atom_at c.args.terms.now c.args.pool.now) 0 ids c.sort_unstable_by.ensures.sorted (λ a r q k. search rules));
    }
