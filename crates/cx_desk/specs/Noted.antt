-- What a transcript is after its calls.
use Rattle.std.specs.Prelude.{◌≡◌, ℕ, List}
use Rattle.cx_desk.specs.declared.transcript.Transcript.{Transcript}
use Rattle.cx_desk.specs.Gave.{Gave, nothing, piece, joined}

abbrev pub gave_of : Transcript → Gave
gave_of t = record { bytes = t.bytes; ended = t.ended }

abbrev pub IsBlank : Transcript → Type 0
IsBlank t = gave_of t ≡ nothing

-- a piece was noted after the others
abbrev pub Notes : List ℕ → Transcript → Transcript → Type 0
Notes bytes old new = gave_of new ≡ joined (gave_of old) (piece bytes)
