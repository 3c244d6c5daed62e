use Rattle.std.proofs.Common.{◌≡◌, ◌-◌, ◌∷◌, ◌++◌, [], rules, length}
use Rattle.std.proofs.lemmas.List.{take_all}
use Rattle.program_files.proofs.Progress.{names_at, taken_more, goes_on, taken_goes_on, size_goes_on, ends, caused, answers_too_long}
use Rattle.program_files.proofs.reading.read_program.Goals as goal

pub returns-in-Err-clause-causes : goal.returns-in-Err-clause-causes
returns-in-Err-clause-causes g c =
    let so_far = c.loop-name.invariant in
    let place = names_at c.args.names.now c.loop-name.name-index c.name-item.result c.loop-name-test.true c.name-item.is in
    caused _ _ _ _ _ c.name-item.result _ _ _ _ _ _ _ _ _ c.in-Err.fault so_far.progress so_far.kept c.as_bytes.ensures place so_far.within
    so_far.taken so_far.faults_later c.in-Err.ensures.reads.answer

pub returns-in-Err-clause-each_too_long : goal.returns-in-Err-clause-each_too_long
returns-in-Err-clause-each_too_long g c = answers_too_long _ _ _ _ _ _ _ tt (returns-in-Err-clause-causes g c)

pub loop-name-preserved : goal.loop-name-preserved
loop-name-preserved g c =
    let so_far = c.loop-name.invariant in
    let reads = c.in-Ok.ensures.reads in
    let file = reads.answer in
    let bytes = c.in-Ok.bytes.items in
    let text : c.push_file.new.text.items ≡ c.loop-name.text.items ++ (bytes ++ 10 ∷ []) = search rules in
    let left : c.loop-name.left - c.len-left.result ≡ c.loop-name.left - length bytes = search rules in
    let more = taken_more c.args.names.now c.loop-name.name-index c.name-item.result c.loop-name-test.true c.name-item.is in
    record {
      kept = search rules;
      taken_later = search rules;
      faults_later = search rules;
      within = search rules;
      taken = taken_goes_on _ _ _ _ _ _ left file.0 so_far.within so_far.taken file.1;
      size = size_goes_on _ bytes _ _ _ _ text left file.0 so_far.size;
      progress = goes_on _ _ _ _ c.name-item.result _ bytes _ _ _ _ so_far.progress so_far.kept c.as_bytes.ensures file.2 file.0 more text left;
    }

pub returns-clause-text : goal.returns-clause-text
returns-clause-text g c =
    ends _ _ _ _ _ c.loop-name.invariant.progress (take_all c.loop-name.name-index c.args.names.now c.loop-name-test.false)

pub returns-clause-each_too_long : goal.returns-clause-each_too_long
returns-clause-each_too_long g c = answers_too_long _ _ 0 0 _ _ _ (returns-clause-text g c) tt
