-- A command by what it reads.
use Rattle.df_words.specs.declared.command.Command.{Command}
use Rattle.df_words.specs.declared.command.Command.TheVariants as command
use Rattle.df_run.specs.declared.tasks.Task.{Task}
use Rattle.df_run.specs.declared.tasks.Task.TheVariants.{Source, Stream, Work}
use Rattle.df_run.specs.declared.tasks.SourceTask.TheVariants.{Show, Table, Verify, Orbits, Matrix, Solve}
use Rattle.df_run.specs.declared.tasks.StreamTask.TheVariants.{Resume, Check}

abbrev pub task_of : Command → Task
task_of command.Show = Source Show
task_of command.Table = Source Table
task_of command.Verify = Source Verify
task_of command.Orbits = Source Orbits
task_of command.Matrix = Source Matrix
task_of (command.Solve options) = Source (Solve options)
task_of (command.Resume options) = Stream (Resume options)
task_of command.Check = Stream Check
task_of (command.Workload n) = Work n
