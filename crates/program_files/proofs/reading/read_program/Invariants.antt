use Rattle.std.proofs.Common.{◌≡◌, ◌+◌, ◌-◌, ◌≤◌, length, take}
use Rattle.alpha_outside.specs.Outside.{RoseBy}
use Rattle.program_files.specs.Files.{most_bytes}
use Rattle.program_files.proofs.Progress.{Progresses}
use Rattle.program_files.proofs.reading.read_program.Given as goal

abbrev pub invariant-loop-name : goal.invariant-loop-name
invariant-loop-name g l = record {
  kept : g.F.Shelf.files l.shelf ≡ g.F.Shelf.files l.fn.shelf;
  taken_later : g.F.Shelf.taken l.fn.shelf ≤ g.F.Shelf.taken l.shelf;
  faults_later : g.F.Shelf.faults l.fn.shelf ≤ g.F.Shelf.faults l.shelf;
  within : l.left ≤ most_bytes;
  taken : RoseBy (most_bytes - l.left) (g.F.Shelf.taken l.fn.shelf) (g.F.Shelf.taken l.shelf);
  size : length l.text.items + l.left ≡ most_bytes + l.name-index;
  progress : Progresses (g.F.Shelf.files l.fn.shelf) (take l.name-index l.names) l.text.items l.left;
}
