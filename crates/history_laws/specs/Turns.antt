-- The command of a unit that is left, with its token (own profile).
use Rattle.std.specs.Prelude.{List}
use Rattle.history.specs.declared.entry.Entry.{Entry}
use Rattle.history.specs.Tasks.{Todo, task_command}
use Rattle.history.specs.Next.{Turn}

abbrev pub turn_of_todo : List Entry → Todo → Turn
turn_of_todo H todo = record { token = todo.token; command = task_command H todo.token todo.kind todo.task }
