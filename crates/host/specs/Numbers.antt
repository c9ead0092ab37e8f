-- The numbers of sorts and of refusals.
use Rattle.std.specs.Prelude.{ℕ}
use Rattle.theory.specs.Outcomes.{store_number}
use Rattle.theory.specs.declared.words.VariableSort.{VariableSort}
use Rattle.theory.specs.declared.words.VariableSort.TheVariants.{Ty, Int, Float, Region, Const}
use Rattle.host.specs.declared.fault.HostFault.{HostFault}
use Rattle.host.specs.declared.fault.HostFault.TheVariants.{Store, UnknownVariable, UnknownUniverse, LogFull}

-- where the count of a sort stands among the counts of a host
abbrev pub sort_index : VariableSort → ℕ
sort_index Ty = 0
sort_index Int = 1
sort_index Float = 2
sort_index Region = 3
sort_index Const = 4

-- the number of a host's refusal: that of the store's fault inside it; 4 unknown variable or universe; 5 no place in the log
abbrev pub host_number : HostFault → ℕ
host_number (Store f) = store_number f
host_number (UnknownVariable s n) = 4
host_number (UnknownUniverse u) = 4
host_number LogFull = 5
