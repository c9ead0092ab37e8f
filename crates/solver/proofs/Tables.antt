-- Where a table is vacant, nothing is held.
use Rattle.std.proofs.Common.{◌≡◌, ℕ, ◌<◌, List, get_or, replicate, None, arith}
use lib.ListN.{length-replicate, get_or-replicate}
use Rattle.std.proofs.lemmas.List.{get_or_past}
use Rattle.solver.specs.declared.canonical.cache.Cached.{Cached}
use Rattle.solver.specs.Caches.{vacant, held}

pub none_held : (r : ℕ) (cs : List Cached) (t : ℕ) → 0 < r → get_or cs t vacant ≡ vacant → held r cs t ≡ None
none_held r cs t lt e = grind arith

pub all-vacant : (n t : ℕ) → get_or (replicate n vacant) t vacant ≡ vacant
all-vacant n t = grind (arith, length-replicate n vacant, get_or-replicate n t vacant vacant, get_or_past (replicate n vacant) t vacant)
