-- Worked cases of printed values.
use Rattle.std.proofs.Common.{◌≡◌, refl, true, false, [], ◌∷◌, replicate, codes}
use Rattle.std.specs.Fmt.{digits}
use Rattle.cx_texts.specs.AnswerText.{answer_text}

no_variables : answer_text [] ≡ codes "s SATISFIABLE\nv 0\n"
no_variables = refl

two_variables : answer_text (true ∷ false ∷ []) ≡ codes "s SATISFIABLE\nv 1 -2 0\n"
unfolding digits
two_variables = refl

sixteen : answer_text (replicate 16 true) ≡ codes "s SATISFIABLE\nv 1 2 3 4 5 6 7 8 9 10 11 12 13 14 15 16 0\n"
unfolding digits
sixteen = refl

seventeen : answer_text (replicate 17 true) ≡ codes "s SATISFIABLE\nv 1 2 3 4 5 6 7 8 9 10 11 12 13 14 15 16\nv 17 0\n"
unfolding digits
seventeen = refl
