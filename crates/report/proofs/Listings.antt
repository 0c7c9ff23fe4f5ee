-- The members of a set, listed one after another.
use Rattle.std.proofs.Common.{◌≡◌, ℕ, ◌+◌, true, false, cond, [], ◌++◌, codes, decimal, refl, ap, ◌∙◌, append-nil, add-one}
use Rattle.net.specs.Sets.{has}
use Rattle.report.specs.Texts.{listed}

pub listed_none : (s : ℕ) → listed 0 s ≡ []
unfolding listed
listed_none s = refl

pub listed_more : (k s : ℕ) → has s k ≡ true → listed (k + 1) s ≡ listed k s ++ (codes " " ++ decimal k)
unfolding listed
listed_more k s e = ap (λ n. listed n s) (add-one k) ∙ ap (λ b. listed k s ++ cond b (codes " " ++ decimal k) []) e

pub listed_passed : (k s : ℕ) → has s k ≡ false → listed (k + 1) s ≡ listed k s
unfolding listed
listed_passed k s e = ap (λ n. listed n s) (add-one k) ∙ ap (λ b. listed k s ++ cond b (codes " " ++ decimal k) []) e ∙ append-nil (listed k s)
