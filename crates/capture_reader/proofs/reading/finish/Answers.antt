use Rattle.std.proofs.Common.{[], ◌++◌}
use Rattle.capture_reader.proofs.ReadingLaws.{cut, ended}
use Rattle.capture_reader.proofs.reading.finish.Goals as goal

pub returns-in-Ok-clause-read : goal.returns-in-Ok-clause-read
returns-in-Ok-clause-read c gone bytes at =
    ended gone bytes c.args.progress.now at (c.in-Ok.ensures.so_far at.read [] (gone ++ c.args.progress.now.piece) at.so_far)

pub returns-in-Err-clause-read : goal.returns-in-Err-clause-read
returns-in-Err-clause-read c gone bytes at =
    cut gone bytes c.args.progress.now c.in-Err.fault at (c.in-Err.ensures.so_far at.read [] (gone ++ c.args.progress.now.piece) at.so_far)
