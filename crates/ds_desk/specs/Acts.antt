-- What a desk does to its log: it tries a command, and keeps it.
use Rattle.std.specs.Prelude.{List, [], ◌++◌, fold, option_to_list, Option, None, Some}
use Rattle.ds_broker.specs.declared.command.Command.{Command}
use Rattle.ds_desk.specs.declared.log.Act.{Act}
use Rattle.ds_desk.specs.declared.log.Act.TheVariants.{Tried, Kept}

-- the commands that were kept, in their order, and the one that was tried last and is not kept, if there is one
pub record Course : Type 0 where
  pub accepted : List Command
  pub tried : Option Command

-- a command that was tried takes the place of one that was not kept
abbrev pub course_after : Course → Act → Course
course_after c (Tried command) = record { accepted = c.accepted; tried = Some command }
course_after c Kept = record { accepted = c.accepted ++ option_to_list c.tried; tried = None }

abbrev pub opening_course : Course
opening_course = record { accepted = []; tried = None }

unfoldable pub course_of : List Act → Course
course_of acts = fold course_after opening_course acts

-- the commands that were kept
abbrev pub history_in : List Act → List Command
history_in acts = (course_of acts).accepted

-- the commands that are kept once the next act keeps
abbrev pub story_in : List Act → List Command
story_in acts = (course_of acts).accepted ++ option_to_list (course_of acts).tried
