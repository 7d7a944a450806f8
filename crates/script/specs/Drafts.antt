-- What the drafts of the code say, and why a line is refused that is no form. Assumes nothing.
use Rattle.std.specs.Prelude.{ℕ, Bool, map, is_some, vec_items}
use Rattle.faults.specs.declared.fault.Reason.TheVariants as reason
use Rattle.faults.specs.declared.read_fault.ReadFault.{ReadFault}
use Rattle.faults.specs.declared.read_fault.ReadFault.TheVariants as read
use Rattle.faults.specs.Faults.{at}
use Rattle.forms.specs.declared.fault.FormFault.{FormFault}
use Rattle.forms.specs.declared.fault.FormFault.TheVariants as form
use Rattle.forms.specs.declared.form.Setting.{Setting}
use Rattle.forms.specs.declared.form.Setting.TheVariants as setting
use Rattle.forms.specs.Views.{task_of}
use Rattle.grammar.specs.Reading as grammar
use Rattle.script.specs.declared.draft.Draft.{Draft}

-- what a draft says
abbrev pub said_in : Draft → grammar.Draft
said_in d = record { cycle = d.cycle_ns; start = d.start_ns; timeout = d.timeout_ns; catch = d.catch; tasks = map task_of (vec_items d.tasks) }

-- the setting was given before
abbrev pub is_given : Setting → grammar.Draft → Bool
is_given (setting.Cycle n) d = is_some d.cycle
is_given (setting.Start n) d = is_some d.start
is_given (setting.Timeout n) d = is_some d.timeout
is_given setting.Catch d = d.catch

-- why the line n is refused that no form came of
abbrev pub on_line : ℕ → FormFault → ReadFault
on_line n form.NoForm = read.Refused (at n reason.NoForm)
on_line n form.Memory = read.Memory
