-- What a script means, apart from the bytes that say it. A name is the list of its bytes. Assumes nothing.
--
--   act     what one step does
--   task    a name, its acts in order, and the line that it stands on
--   plan    a whole script: the settings, and the tasks in order
use Rattle.std.specs.Prelude.{ℕ, Bool, List, ℤ, Option}
use Rattle.forms.specs.declared.form.Setting.{Setting}

pub data Act : Type 0 where
  sleep : ℕ → Act
  spawn : List ℕ → Act
  wake : List ℕ → Act
  abort : List ℕ → Act
  stop : ℤ → Act
  await : Act
  done : ℤ → Act
  fault : ℕ → Act

pub record Task : Type 0 where
  pub name : List ℕ
  pub acts : List Act
  pub line : ℕ

pub record Plan : Type 0 where
  pub cycle : ℕ
  pub start : ℕ
  pub timeout : Option ℕ
  pub catch : Bool
  pub tasks : List Task

-- what one line says: a setting, or a task with its name and acts
pub data Says : Type 0 where
  setting : Setting → Says
  task : List ℕ → List Act → Says
