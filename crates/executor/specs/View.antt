-- What an executor stands for.
use Rattle.deterministic.specs.Model.{Model}
use Rattle.state.specs.View as state
use Rattle.executor.specs.declared.Executor.{Executor}

-- what its state stands for
abbrev pub view : Executor → Model
view e = state.view e.state
