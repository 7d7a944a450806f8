-- What such a list stands for.
use Rattle.std.specs.Prelude.{List, vec_items, ℕ}
use Rattle.reserved.specs.declared.Reserved.{Reserved}

-- its elements, first to last
abbrev pub held : {T : Type 0} {N : ℕ} → Reserved T N → List T
held r = vec_items r.list
