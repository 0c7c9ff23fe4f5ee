use Rattle.std.proofs.Common.{◌≡◌, ◌+◌, ◌*◌, ◌%◌, ◌<◌, [], ◌∷◌, ◌++◌, length, get_or, take, drop, sum, sym, refl, ap, ◌∙◌, ap₂, arith}
use Rattle.std.proofs.lemmas.List.{take_more, take_all, length-take-le, length_push}
use Rattle.frame.specs.Digits.{hex_of}
use Rattle.frame.specs.Lines.{check_of, line_of}
use Rattle.frame.proofs.Puts.{Holds, puts_byte, puts_feed, sums_byte, past_first}
use Rattle.frame.proofs.writes.put_line.Goals as goal

pub loop-i-init : goal.loop-i-init
loop-i-init c =
    let m = c.put.new.memory in
    let m0 = c.args.memory.now in
    let kind = c.from-kind.result in
    let room = c.requires.room in
    let first : Holds m (kind ∷ []) 2 m0 = c.put.ensures ∙ puts_byte m0 [] m0 0 kind refl refl (omega arith) in
    let small : kind < 256 = omega arith in
    (first ∙ ap (λ l. hex_of (kind ∷ []) ++ l) (sym (past_first m m0 kind 0 first)), small, omega arith)

pub loop-i-preserved : goal.loop-i-preserved
loop-i-preserved c =
    let i = c.loop-i.i in
    let payload = c.args.payload.now in
    let m0 = c.put.new.memory in
    let kind = c.from-kind.result in
    let room = c.requires.room in
    let bs = kind ∷ take i payload in
    let b = get_or payload i 0 in
    let inv = c.loop-i.invariant in
    let more : bs ++ b ∷ [] ≡ kind ∷ take (i + 1) payload = ap (λ l. kind ∷ l) (sym (take_more payload i 0 c.loop-i-test.true)) in
    let long : length (take i payload) ≡ i = length-take-le i payload (omega arith) in
    let on : 2 * i + 2 + 2 ≡ 2 * (i + 1) + 2 = omega arith in
    let put : Holds c.put-in-loop-i.new.memory (bs ++ b ∷ []) (2 * i + 2 + 2) m0 = c.put-in-loop-i.ensures ∙ puts_byte c.loop-i.memory bs m0 (2 * i + 2) b inv.0 (omega arith) (omega arith) in
    (put ∙ ap₂ (λ l n. hex_of l ++ drop n m0) more on, omega arith, sums_byte bs c.loop-i.sum b inv.2 ∙ ap (λ l. sum l % 256) more)

pub returns : goal.returns
returns c =
    let payload = c.args.payload.now in
    let n = length payload in
    let m1 = c.put.new.memory in
    let m0 = c.args.memory.now in
    let kind = c.from-kind.result in
    let room = c.requires.room in
    let inv = c.loop-i.invariant in
    let bs = kind ∷ payload in
    let check = c.wrapping_neg.result in
    let first : Holds m1 (kind ∷ []) 2 m0 = c.put.ensures ∙ puts_byte m0 [] m0 0 kind refl refl (omega arith) in
    let all : take c.loop-i.i payload ≡ payload = take_all c.loop-i.i payload c.loop-i-test.false in
    let end : c.loop-i.i ≡ n = omega arith in
    let held : Holds c.loop-i.memory bs (2 * n + 2) m1 = inv.0 ∙ ap₂ (λ l i. hex_of (kind ∷ l) ++ drop (2 * i + 2) m1) all end in
    let on : 2 * n + 2 + 2 ≡ 2 * n + 4 = omega arith in
    let put : Holds c.put-2.new.memory (bs ++ check ∷ []) (2 * n + 4) m1 =
    c.put-2.ensures ∙ puts_byte c.loop-i.memory bs m1 (2 * n + 2) check held (omega arith) (omega arith) ∙ ap (λ k. hex_of (bs ++ check ∷ []) ++ drop k m1) on in
    let sums : c.loop-i.sum ≡ sum bs % 256 = inv.2 ∙ ap (λ l. sum (kind ∷ l) % 256) all in
    let is : check ≡ check_of bs = omega arith in
    let last : length (bs ++ check ∷ []) ≡ n + 2 = length_push bs check ∙ omega arith in
    let end : 2 * n + 4 + 1 ≡ 2 * n + 3 + 2 = omega arith in
    let past : drop (2 * n + 4 + 1) m1 ≡ drop (2 * n + 5) m0 = ap (λ k. drop k m1) end ∙ past_first m1 m0 kind (2 * n + 3) first ∙ ap (λ k. drop k m0) (omega arith) in
    puts_feed c.put-2.new.memory (bs ++ check ∷ []) m1 (2 * n + 4) put (omega arith) (omega arith)
    ∙ ap₂ (λ x l. (hex_of (bs ++ x ∷ []) ++ 10 ∷ []) ++ l) is past
    ∙ ap (λ k. line_of k payload ++ drop (2 * n + 5) m0) c.from-kind.ensures
