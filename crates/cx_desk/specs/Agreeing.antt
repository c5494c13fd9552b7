-- What is said of a call for all files that agree with what was read.
use Rattle.std.specs.Prelude.{Option, IfSome}
use Rattle.cx_desk.specs.Outside.{Files, Outside, AgreeWith}

-- files that a desk may have: none that are known, or some that agree with it
abbrev pub MayHave : Option Files → Outside → Type 0
MayHave w o = IfSome w (λ files. AgreeWith files o)

-- A call, whichever files the desk has: those that it may have after the call it may have before, and this holds of them.
abbrev pub Did : Outside → Outside → (Option Files → Type 0) → Type 0
Did old new P = (w : Option Files) → MayHave w new → MayHave w old × P w
