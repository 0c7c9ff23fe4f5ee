-- Sets that meet, sets that are apart, and sets that another set meets in at most one member.
use Rattle.std.proofs.Common.{◌≡◌, ℕ, ◌^◌, ◌<◌, ◌≤◌, ◌⊎◌, ◌↔◌, sym, ◌∙◌, subst, inl, inr, ⊎_elim, arith}
use Rattle.std.proofs.lemmas.Bool.{cases_lt}
use Rattle.net.specs.Sets.{In, size, intersection, union, difference, Subset, Meets, Disjoint}
use Rattle.net.proofs.Members.{in_intersection, in_union, in_difference, in_single, none_in, some_in}
use Rattle.net.proofs.Subsets.{intersection_first, intersection_second, union_first, union_second}
use Rattle.net.proofs.Sizes.{size_empty, size_some, size_one, size_subset}

-- ---- as a test

pub meets_intersection : (a s : ℕ) → Meets a s ↔ (0 < intersection a s)
meets_intersection a s = (
  λ m. (some_in (intersection a s)).1 (m.0, (in_intersection a s m.0).1 (m.1, m.2)),
  λ h. let (p, i) = (some_in (intersection a s)).0 h in (p, intersection_first a s p i, intersection_second a s p i),
)

pub apart_intersection : (a s : ℕ) → Disjoint a s ↔ (intersection a s ≡ 0)
apart_intersection a s = (
  λ h. (none_in (intersection a s)).1 (λ p i. h p (intersection_first a s p i) (intersection_second a s p i)),
  λ e p i j. (none_in (intersection a s)).0 e p ((in_intersection a s p).1 (i, j)),
)

pub meets_cases : (a s : ℕ) → Meets a s ⊎ Disjoint a s
meets_cases a s = ⊎_elim (λ h. inl ((meets_intersection a s).1 h)) (λ h. inr ((apart_intersection a s).1 (omega arith))) (cases_lt 0 (intersection a s))

-- ---- as a size

pub meets_size : (a s : ℕ) → Meets a s ↔ (0 < size (intersection a s))
meets_size a s = (λ m. (size_some (intersection a s)).0 ((meets_intersection a s).0 m), λ h. (meets_intersection a s).1 ((size_some (intersection a s)).1 h))

pub apart_size : (a s : ℕ) → Disjoint a s ↔ (size (intersection a s) ≡ 0)
apart_size a s = (λ h. (size_empty (intersection a s)).0 ((apart_intersection a s).0 h), λ z. (apart_intersection a s).1 ((size_empty (intersection a s)).1 z))

-- ---- inside a set

pub meets_subset : (a r s : ℕ) → Subset r s → Meets a r → Meets a s
meets_subset a r s f m = (m.0, m.1, f m.0 m.2)

pub apart_subset : (a r s : ℕ) → Subset r s → Disjoint a s → Disjoint a r
apart_subset a r s f h p i j = h p i (f p j)

pub size_intersection_subset : (a r s : ℕ) → Subset r s → size (intersection a r) ≤ size (intersection a s)
size_intersection_subset a r s f = size_subset (intersection a r) (intersection a s) (λ p i. (in_intersection a s p).1 (intersection_first a r p i, f p (intersection_second a r p i)))

-- ---- a set s that a meets in at most one member: any two are one

pub slim : (a s : ℕ) → (size (intersection a s) ≤ 1) ↔ ((p q : ℕ) → In p a → In p s → In q a → In q s → p ≡ q)
slim a s = (
  λ h p q pa ps qa qs. (size_one (intersection a s)).0 h p q ((in_intersection a s p).1 (pa, ps)) ((in_intersection a s q).1 (qa, qs)),
  λ same. (size_one (intersection a s)).1 (λ p q i j. same p q (intersection_first a s p i) (intersection_second a s p i) (intersection_first a s q j) (intersection_second a s q j)),
)

pub slim_single : (a p : ℕ) → size (intersection a (2 ^ p)) ≤ 1
slim_single a p = (slim a (2 ^ p)).1 (λ x y xa xp ya yp. (in_single p x).0 xp ∙ sym ((in_single p y).0 yp))

-- a union, where each part and the two together are so
pub slim_union : (a r g : ℕ) → size (intersection a r) ≤ 1 → size (intersection a g) ≤ 1 → ((p q : ℕ) → In p r → In q g → In p a → In q a → p ≡ q) → size (intersection a (union r g)) ≤ 1
slim_union a r g hr hg across =
    (slim a (union r g)).1 (λ p q pa pu qa qu.
    ⊎_elim (λ pr. ⊎_elim (λ qr. (slim a r).0 hr p q pa pr qa qr) (λ qg. across p q pr qg pa qa) ((in_union r g q).0 qu))
    (λ pg. ⊎_elim (λ qr. sym (across q p qr pg qa pa)) (λ qg. (slim a g).0 hg p q pa pg qa qg) ((in_union r g q).0 qu))
    ((in_union r g p).0 pu))

-- ---- sets of which a and b meet as many members

pub even_meets : (a b s : ℕ) → size (intersection a s) ≡ size (intersection b s) → Meets a s → Meets b s
even_meets a b s e m = let h = (meets_size a s).0 m in (meets_size b s).1 (omega arith)

-- where a and b meet at most one, it is enough that each is met where the other is
pub meets_even : (a b s : ℕ) → size (intersection a s) ≤ 1 → size (intersection b s) ≤ 1 → (Meets a s → Meets b s) → (Meets b s → Meets a s) → size (intersection a s) ≡ size (intersection b s)
meets_even a b s ha hb f g =
    ⊎_elim (λ m. let x = (meets_size a s).0 m in let y = (meets_size b s).0 (f m) in omega arith)
    (λ none. (apart_size a s).0 none ∙ sym ((apart_size b s).0 (λ p i j. let m = g (p, i, j) in none m.0 m.1 m.2)))
    (meets_cases a s)

-- ---- inside a set s that b meets in at most one member, what meets a and b together does so in the common part, the rest and the union

pub common_meets : (a b s r q : ℕ) → size (intersection b s) ≤ 1 → Subset r s → Subset q s → (Meets a r → Meets b r) → (Meets a q → Meets b q) → Meets a (intersection r q) → Meets b (intersection r q)
common_meets a b s r q one rs qs f g m =
    let p = m.0 in
    let x = f (p, m.1, intersection_first r q p m.2) in
    let y = g (p, m.1, intersection_second r q p m.2) in
    let e : y.0 ≡ x.0 = (slim b s).0 one y.0 x.0 y.1 (qs y.0 y.2) x.1 (rs x.0 x.2) in
    (x.0, x.1, (in_intersection r q x.0).1 (x.2, subst (λ z. In z q) e y.2))

pub rest_meets : (a b s r q : ℕ) → size (intersection a s) ≤ 1 → Subset r s → Subset q s → (Meets a r → Meets b r) → (Meets b q → Meets a q) → Meets a (difference r q) → Meets b (difference r q)
rest_meets a b s r q one rs qs f g m =
    let p = m.0 in
    let (pr, out) = (in_difference r q p).0 m.2 in
    let x = f (p, m.1, pr) in (
      x.0,
      x.1,
      (in_difference r q x.0).1 (
        x.2,
        λ i.
            let y = g (x.0, x.1, i) in
            let e : y.0 ≡ p = (slim a s).0 one y.0 p y.1 (qs y.0 y.2) m.1 (rs p pr) in
            out (subst (λ z. In z q) e y.2),
      ),
    )

pub union_meets : (a b r q : ℕ) → (Meets a r → Meets b r) → (Meets a q → Meets b q) → Meets a (union r q) → Meets b (union r q)
union_meets a b r q f g m =
    ⊎_elim (λ i. meets_subset b r (union r q) (union_first r q) (f (m.0, m.1, i)))
    (λ i. meets_subset b q (union r q) (union_second r q) (g (m.0, m.1, i)))
    ((in_union r q m.0).0 m.2)
