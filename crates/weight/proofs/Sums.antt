-- Sums: the start, a step, sums of equal terms and sums of sums.
use Rattle.std.specs.List.{fold, range_with_len}
use Rattle.std.proofs.Common.{Bool, true, false, cond, ◌≡◌, ℕ, zero, suc, ◌+◌, ◌<◌, sym, refl, ap, ◌∙◌, ap₂, add-one, arith}
use Rattle.weight.specs.Additions.{Addition, CommutativeMonoid}
use Rattle.weight.specs.Weights.{summed}

module _ {W : Type 0} (a : Addition W) where
  pub summed_none : (f : ℕ → W) → summed a 0 f ≡ a.neutral
  unfolding summed
  summed_none f = refl

  pub summed_more : (k : ℕ) (f : ℕ → W) → a.plus (summed a k f) (f k) ≡ summed a (k + 1) f
  unfolding summed
  summed_more k f = sym (ap (λ j. summed a j f) (add-one k))

  pub summed_same : (k : ℕ) (f g : ℕ → W) → ((n : ℕ) → n < k → f n ≡ g n) → summed a k f ≡ summed a k g
  unfolding summed
  summed_same zero f g same = refl
  summed_same (suc k) f g same = ap₂ a.plus (summed_same k f g (λ n lt. same n (omega arith))) (same k (omega arith))

  module _ (laws : CommutativeMonoid a) where
    -- the neutral weight adds nothing on the right either
    pub unit_right : (x : W) → a.plus x a.neutral ≡ x
    unit_right x = laws.commutative x a.neutral ∙ laws.unit x

    -- two sums of two, taken the other way
    crosswise : (w x y z : W) → a.plus (a.plus w x) (a.plus y z) ≡ a.plus (a.plus w y) (a.plus x z)
    crosswise w x y z =
        laws.associative w x (a.plus y z)
        ∙ ap (a.plus w) (sym (laws.associative x y z) ∙ ap (λ v. a.plus v z) (laws.commutative x y) ∙ laws.associative y x z)
        ∙ sym (laws.associative w y (a.plus x z))

    pub summed_plus : (k : ℕ) (f g : ℕ → W) → summed a k (λ n. a.plus (f n) (g n)) ≡ a.plus (summed a k f) (summed a k g)
    unfolding summed
    summed_plus zero f g = sym (laws.unit a.neutral)
    summed_plus (suc k) f g = ap (λ x. a.plus x (a.plus (f k) (g k))) (summed_plus k f g) ∙ crosswise (summed a k f) (summed a k g) (f k) (g k)

    -- one more, where it passes
    plus_where : (b : Bool) (x y : W) → cond b (a.plus x y) x ≡ a.plus x (cond b y a.neutral)
    plus_where true x y = refl
    plus_where false x y = sym (unit_right x)

    module _ (test : ℕ → Bool) (f : ℕ → W) where
      -- adding up those of k numbers from m on that pass the test, on top of the sum up to m
      pub summed_where : (k m : ℕ) (sum : W) → sum ≡ summed a m (λ n. cond (test n) (f n) a.neutral)
          → fold (λ x n. cond (test n) (a.plus x (f n)) x) sum (range_with_len m k) ≡ summed a (m + k) (λ n. cond (test n) (f n) a.neutral)
      summed_where zero m sum so = so ∙ ap (λ j. summed a j (λ n. cond (test n) (f n) a.neutral)) (omega arith)
      summed_where (suc k) m sum so =
          let passed : ℕ → W = λ n. cond (test n) (f n) a.neutral in
          summed_where k (m + 1) (cond (test m) (a.plus sum (f m)) sum) (plus_where (test m) sum (f m) ∙ ap (λ x. a.plus x (passed m)) so ∙ summed_more m passed)
          ∙ ap (λ j. summed a j passed) (omega arith)
