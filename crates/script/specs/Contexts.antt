-- What making a variable does to a context: its number and its term come together, or nothing changes.
use Rattle.std.specs.Prelude.{ℕ, Ok, Err, Result}
use Rattle.theory.specs.declared.words.VariableSort.{VariableSort}
use Rattle.theory.specs.declared.words.StoreFault.{StoreFault}
use Rattle.theory.specs.Forms.{variable_of}
use Rattle.theory.specs.Outcomes.{answered}
use Rattle.theory.specs.Store.{Contents, add_leaf}
use Rattle.host.specs.declared.fault.HostFault.{HostFault}
use Rattle.host.specs.declared.fault.HostFault.TheVariants.{Store as in_store}
use Rattle.host.specs.declared.plain.PlainHost.{PlainHost}
use Rattle.host.specs.Hosts.{count, made}

-- the number of a variable whose term was put, or why it was not (2)
abbrev pub with_term : ℕ → Result ℕ StoreFault × Contents → Result ℕ HostFault × Contents
with_term n (Ok t, c) = (Ok n, c)
with_term n (Err e, c) = (Err (in_store e), c)

abbrev pub made_at : VariableSort → Contents → Result ℕ HostFault → Result ℕ HostFault × Contents
made_at s c (Ok n) = with_term n (add_leaf c (variable_of s n))
made_at s c (Err e) = (Err e, c)

-- 4 and 5 as the host says, then 2
abbrev pub made_in : PlainHost → Contents → VariableSort → ℕ → Result ℕ HostFault × Contents
made_in h c s u = made_at s c (made h s u)
