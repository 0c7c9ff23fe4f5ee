-- The first line feed of an input ends its first line.
use Rattle.std.proofs.Common.{◌≡◌, ℕ, zero, suc, ◌+◌, ◌-◌, ◌<◌, eqb, List, [], ◌∷◌, length, get_or, take, drop, sym, ap, ◌∙◌, subst, add-one, arith}
use Rattle.std.proofs.lemmas.List.{take-append-drop, length-take-le, get_or-take, take_all, drop_all}
use Rattle.std.proofs.lemmas.Bool.{eq-eqb, ne_eqb, cond-true, cond-false}
use Rattle.frame.specs.Cuts.{longer, lines_of, FreeBelow, Cut}

tail_free : (i c : ℕ) (cs : List ℕ) → FreeBelow (suc i) (c ∷ cs) → FreeBelow i cs
tail_free i c cs free k lt = free (suc k) (omega arith)

lines_to_feed : (cs : List ℕ) (i : ℕ) → i < length cs → FreeBelow i cs → get_or cs i 0 ≡ 10 → lines_of cs ≡ take (suc i) cs ∷ lines_of (drop (suc i) cs)
lines_to_feed [] i lt free feed = absurd (omega arith)
lines_to_feed (c ∷ cs) zero lt free feed = cond-true (eqb c 10) ((c ∷ []) ∷ lines_of cs) (longer c (lines_of cs)) (eq-eqb c 10 feed)
lines_to_feed (c ∷ cs) (suc i) lt free feed =
    cond-false (eqb c 10) ((c ∷ []) ∷ lines_of cs) (longer c (lines_of cs)) (ne_eqb c 10 (free 0 (omega arith)))
    ∙ ap (longer c) (lines_to_feed cs i (omega arith) (tail_free i c cs free) feed)

one_line : (cs : List ℕ) → 0 < length cs → FreeBelow (length cs) cs → lines_of cs ≡ cs ∷ []
one_line [] some free = absurd (omega arith)
one_line (c ∷ []) some free = cond-false (eqb c 10) ((c ∷ []) ∷ []) ((c ∷ []) ∷ []) (ne_eqb c 10 (free 0 (omega arith)))
one_line (c ∷ (d ∷ cs)) some free =
    cond-false (eqb c 10) ((c ∷ []) ∷ lines_of (d ∷ cs)) (longer c (lines_of (d ∷ cs))) (ne_eqb c 10 (free 0 (omega arith)))
    ∙ ap (longer c) (one_line (d ∷ cs) (omega arith) (tail_free (length (d ∷ cs)) c (d ∷ cs) free))

-- cut behind the first line feed
pub cut_at_feed : (cs : List ℕ) (i : ℕ) → i < length cs → FreeBelow i cs → get_or cs i 0 ≡ 10 → Cut cs (take (i + 1) cs) (drop (i + 1) cs)
cut_at_feed cs i lt free feed =
    let long : length (take (i + 1) cs) ≡ i + 1 = length-take-le (i + 1) cs (omega arith) in
    let last : length (take (i + 1) cs) - 1 ≡ i = omega arith in
    record {
      whole = take-append-drop (i + 1) cs;
      some = λ _. omega arith;
      feed_ends = λ k below is. free k (omega arith) (sym (get_or-take (i + 1) cs k 0 (omega arith)) ∙ is);
      feed_between = λ _. ap (λ k. get_or (take (i + 1) cs) k 0) last ∙ get_or-take (i + 1) cs i 0 (omega arith) ∙ feed;
      first = λ _. lines_to_feed cs i lt free feed ∙ ap (λ k. take k cs ∷ lines_of (drop k cs)) (sym (add-one i));
    }

-- with no line feed, it is one line
pub cut_at_end : (cs : List ℕ) (n : ℕ) → n ≡ length cs → FreeBelow (length cs) cs → Cut cs (take n cs) (drop n cs)
cut_at_end cs n is free =
    let all = take_all n cs (omega arith) in
    let none : drop n cs ≡ [] = drop_all n cs (omega arith) in
    record {
      whole = take-append-drop n cs;
      some = λ h. subst (λ l. 0 < length l) (sym all) h;
      feed_ends = λ k below is. free k (omega (arith, ap length all)) (ap (λ l. get_or l k 0) (sym all) ∙ is);
      feed_between = λ h. absurd (omega (arith, ap length none));
      first = λ h. one_line cs h free ∙ ap (λ l. l ∷ []) (sym all) ∙ ap (λ l. take n cs ∷ lines_of l) (sym none);
    }
