-- The file that a slot of a desk in memory reads agrees with what its reads gave.
use Rattle.std.specs.Prelude.{◌≡◌, true, List, Some, is_some, option_map, string_bytes}
use Rattle.std.proofs.Common.{◌∙◌, sym, ap, take-append-drop}
use Rattle.cx_desk.specs.declared.memory.NamedFile.{NamedFile}
use Rattle.cx_desk.specs.declared.memory.place.FilePlace.{FilePlace}
use Rattle.cx_desk.specs.Outside.{Bytes, FileAgrees}
use Rattle.cx_desk.specs.Place.{named, bytes_at, given_of, rest_of, file_asked, IsPlaced}

pub placed_agrees : (files : List NamedFile) (p : FilePlace) → IsPlaced files p → is_some p.file ≡ true → (name : Bytes) → option_map string_bytes p.name ≡ Some name
    → FileAgrees name (named files) (given_of files p)
placed_agrees files p placed open_there name asked = record {
  text = bytes_at files p.file;
  named = sym (ap (λ n. file_asked n (named files)) asked) ∙ placed.found open_there;
  agrees = record {
    rest = rest_of files p;
    front = sym (take-append-drop p.at (bytes_at files p.file));
    all = placed.all;
  };
}
