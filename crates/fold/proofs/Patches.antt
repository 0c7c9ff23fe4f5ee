-- The sets of a list that are not empty.
use Rattle.std.proofs.Common.{ℕ, cond, eqb, List, [], ◌∷◌}

abbrev pub some_of : List ℕ → List ℕ
some_of [] = []
some_of (s ∷ ss) = cond (eqb s 0) (some_of ss) (s ∷ some_of ss)
