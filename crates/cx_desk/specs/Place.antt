-- What a slot of a desk in memory reads.
use Rattle.std.specs.Prelude.{◌≡◌, ◌||◌, ℕ, Bool, true, List, [], map, min, take, drop, length, Option, Some, None, is_some, is_none, is_err, option_map, string_bytes, slice_get, Result, MatchResult}
use Rattle.std.specs.Option.{option_map_or}
use Rattle.cx_desk.specs.declared.memory.NamedFile.{NamedFile}
use Rattle.cx_desk.specs.declared.memory.place.FilePlace.{FilePlace}
use Rattle.cx_desk.specs.Gave.{Gave, nothing, piece, joined}
use Rattle.cx_desk.specs.Outside.{Bytes, Files, file_named}

-- the names of the files and their bytes
abbrev pub named : List NamedFile → Files
named files = map (λ f. (string_bytes f.name, f.bytes.items)) files

-- the bytes of the file at an index
abbrev pub bytes_at : List NamedFile → Option ℕ → Bytes
bytes_at files None = []
bytes_at files (Some i) = option_map_or (λ f. f.bytes.items) (slice_get files i) []

-- what was read
abbrev pub given_of : List NamedFile → FilePlace → Gave
given_of files p = record { bytes = take p.at (bytes_at files p.file); ended = p.ended }

-- what is left to be read
abbrev pub rest_of : List NamedFile → FilePlace → Bytes
rest_of files p = drop p.at (bytes_at files p.file)

-- the bytes of the first file of the name, where one was asked for
abbrev pub file_asked : Option Bytes → Files → Option Bytes
file_asked None files = None
file_asked (Some name) files = file_named name files

-- the file that it reads is the one that was asked for; and once a read gave the end, nothing is left
pub record IsPlaced (files : List NamedFile) (p : FilePlace) : Type 0 where
  pub found : is_some p.file ≡ true → file_asked (option_map string_bytes p.name) (named files) ≡ Some (bytes_at files p.file)
  pub all : p.ended ≡ true → rest_of files p ≡ []

-- the name is kept, and where a file of this name was opened, none of it was read yet
pub record StartsAt {T E : Type 0} (files : List NamedFile) (asked : Bytes) (fails : Bool) (old : FilePlace) (outcome : Result T E) (new : FilePlace) : Type 0 where
  pub fails_where : is_err outcome ≡ (fails || is_none (file_named asked (named files)))
  pub name : option_map string_bytes new.name ≡ Some asked
  pub place : MatchResult outcome
      (λ _. (is_some new.file ≡ true) × (given_of files new ≡ nothing))
      (λ _. (new.file ≡ old.file) × (new.at ≡ old.at) × (new.ended ≡ old.ended))

-- a read of n bytes: as many as are left, as the buffer has room for and as one call moves
pub record MovesOn (files : List NamedFile) (most room : ℕ) (old : FilePlace) (n : ℕ) (new : FilePlace) (into : Bytes) : Type 0 where
  pub count : n ≡ min most (min room (length (rest_of files old)))
  pub name : new.name ≡ old.name
  pub file : new.file ≡ old.file
  pub gave : given_of files new ≡ joined (given_of files old) (piece (take n into))
