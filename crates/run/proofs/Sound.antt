-- The counted net and the lines go together: from a marking that is the lit lines, a call leads to a marking that is the lit lines.
use Rattle.std.proofs.Common.{◌≡◌, ℕ, ◌^◌, ◌<◌, ◌≤◌, Bool, true, false, cond, ◌&&◌, T, eqb, leb, List, [], ◌∷◌, is_ok, Some, None, Ok, Err, Option, sym, refl, ap, ◌∙◌, subst, ap₂, ⊎_elim, arith}
use Rattle.std.specs.List.{slice_get}
use Rattle.std.proofs.lemmas.Bool.{cases_Bool, cases_lt, leb-false, and_left}
use Rattle.refusal.specs.declared.Refusal.TheVariants.{NoSuchTransition, Unlit, Occupied, Shut}
use Rattle.refusal.specs.Outcomes.{Outcome, refuse_if, refuse_at}
use Rattle.net.specs.Counting.{Marking, initial, Enabled, fired}
use Rattle.net.specs.Lowest.{lowest_of}
use Rattle.net.specs.Nets.{PetriNet, Kept}
use Rattle.net.specs.Sets.{has, one_in, exchange, Subset}
use Rattle.net.specs.Strands.{HasCover}
use Rattle.net.proofs.Lows.{lowest_when_none}
use Rattle.net.proofs.Members.{in_below, has_out}
use Rattle.net.proofs.Sizes.{counts_in, counts_out, counts_once}
use Rattle.net.proofs.Tokens.{OneToken, one_token_at_start, one_token_fired, given_are_empty, lines_follow, enabled_lit}
use Rattle.board.specs.Rules.{Laid}
use Rattle.weight.specs.Additions.{Addition}
use Rattle.run.specs.Calls.{told, told_station, answered, is_done}
use Rattle.run.specs.Counted.{Counting, counted_fire, holds_one, counted_answer, counted_after}
use Rattle.run.specs.Firing.{agrees, fire_outcome, station_outcome}
use Rattle.run.specs.Follows.{Shows, Follows}
use Rattle.run.specs.Log.{NoneOccupied}
use Rattle.run.specs.States.{State, Step, Chain}
use Rattle.run.specs.declared.calls.Call.{Call}
use Rattle.run.specs.declared.calls.Call.TheVariants.{Fire, Signal, Halt, Resume, Home, Read, Station, Weigh}
use Rattle.run.specs.declared.calls.Answer.{Answer}
use Rattle.run.specs.declared.calls.Answer.TheVariants.{Done, Refused, Absent}
use Rattle.run.specs.declared.calls.Entry.{Entry}
use Rattle.run.proofs.Accepts.{Accepted, fire_accepted, taken_lit}

-- ---- one place, by its line

zero_is_dark : (b : Bool) → eqb (cond b 1 0) 0 ≡ agrees false b
zero_is_dark true = refl
zero_is_dark false = refl

one_is_lit : (b : Bool) → eqb (cond b 1 0) 1 ≡ b
one_is_lit true = refl
one_is_lit false = refl

-- ---- a marking that counts each place as its line

-- each strand has one token at most, and nothing past the places counts
pub record Counts (n : PetriNet) (m : Marking) : Type 0 where
  pub one : OneToken n m
  pub past : (p : ℕ) → n.places ≤ p → m p ≡ 0

none_past : (n s p : ℕ) → s < 2 ^ n → n ≤ p → one_in s p ≡ 0
none_past n s p small le = (counts_out s p).0 (λ is. let lt = in_below n s p small is in omega arith)

pub counts_at_start : (n : PetriNet) → Kept n → Counts n (initial n)
counts_at_start n kept = record { one = one_token_at_start n kept; past = λ p le. none_past n.places n.marks p kept.marked le }

counts_fired : (n : PetriNet) → Kept n → (t : ℕ) (m : Marking) → Enabled n m t → Counts n m → Counts n (fired n t m)
counts_fired n kept t m on counts = record {
  one = one_token_fired n kept t m on counts.one;
  past = λ p le. let was = counts.past p le in let got = none_past n.places (n.gives t) p (kept.given t) le in omega arith;
}

module _ (n : PetriNet) (kept : Kept n) (narrow : n.places ≤ 64) (cover : HasCover n) where
  module _ (m : Marking) (counts : Counts n m) (l : ℕ) (same : (p : ℕ) → m p ≡ one_in l p) where
    enabled : (t : ℕ) → t < n.transitions → Subset (n.takes t) l → Enabled n m t
    enabled t lt lit = (enabled_lit n m l same t).1 (lt, lit)

    given_none : (t : ℕ) → Enabled n m t → lowest_of (n.gives t) (λ p. agrees true (has l p)) ≡ None
    given_none t on =
        lowest_when_none 64 (λ p. has (n.gives t) p && has l p)
        (λ p lt. ⊎_elim
        (λ is. ap₂ ◌&&◌ is (has_out p l (λ lit. let z = sym (same p) ∙ given_are_empty n kept cover m counts.one t on p (subst T (sym is) tt) in let o = (counts_in l p).0 lit in omega arith)))
        (λ out. and_left (has (n.gives t) p) (has l p) out)
        (cases_Bool (has (n.gives t) p)))

    dark_same : (t : ℕ) → lowest_of (n.takes t) (λ p. eqb (m p) 0) ≡ lowest_of (n.takes t) (λ p. agrees false (has l p))
    dark_same t = ap (lowest_of (n.takes t)) (λ i p. (ap (λ k. eqb k 0) (same p) ∙ zero_is_dark (has l p)) i)

    refusals_same : (t : ℕ) (shut : Option ℕ) → t < n.transitions → (u : Option ℕ) → lowest_of (n.takes t) (λ p. agrees false (has l p)) ≡ u
        → refuse_at u Unlit (refuse_at shut Shut (Ok tt)) ≡ refuse_at u Unlit (refuse_at (lowest_of (n.gives t) (λ p. agrees true (has l p))) Occupied (refuse_at shut Shut (Ok tt)))
    refusals_same t shut lt (Some p) e = refl
    refusals_same t shut lt None e = sym (ap (λ o. refuse_at o Occupied (refuse_at shut Shut (Ok tt))) (given_none t (enabled t lt (taken_lit n kept narrow l t e))))

    -- the counted net and the lines agree on what a fire comes to
    pub fire_same : (shut : Option ℕ) (t : ℕ) → counted_fire n m shut t ≡ fire_outcome n l shut t
    fire_same shut t = by (leb n.transitions t) refl
      where
        by : (b : Bool) → leb n.transitions t ≡ b → counted_fire n m shut t ≡ fire_outcome n l shut t
        by true e =
            ap (λ b. refuse_if b NoSuchTransition (refuse_at (lowest_of (n.takes t) (λ p. eqb (m p) 0)) Unlit (refuse_at shut Shut (Ok tt)))) e
            ∙ sym (ap (λ b. refuse_if b NoSuchTransition (refuse_at (lowest_of (n.takes t) (λ p. agrees false (has l p))) Unlit (refuse_at (lowest_of (n.gives t) (λ p. agrees true (has l p))) Occupied (refuse_at shut Shut (Ok tt))))) e)
        by false e =
            ap (λ u. refuse_if (leb n.transitions t) NoSuchTransition (refuse_at u Unlit (refuse_at shut Shut (Ok tt)))) (dark_same t)
            ∙ ap (refuse_if (leb n.transitions t) NoSuchTransition) (refusals_same t shut (leb-false n.transitions t e) (lowest_of (n.takes t) (λ p. agrees false (has l p))) refl)

    -- where it is accepted, the marking after is the lines after
    pub fired_same : (t : ℕ) → Accepted n kept narrow l t → (p : ℕ) → fired n t m p ≡ one_in (exchange l (n.takes t) (n.gives t)) p
    fired_same t ok p = lines_follow n kept cover m counts.one l same t (enabled t ok.there ok.taken) p

    pub fired_counts : (t : ℕ) → Accepted n kept narrow l t → Counts n (fired n t m)
    fired_counts t ok = counts_fired n kept t m (enabled t ok.there ok.taken) counts

  module _ {B W : Type 0} (lit : B → ℕ) (closed : B → Option ℕ) (signalled : B → ℕ → ℕ → B → Type 0) (add : Addition W) (strands : List ℕ) (weights : List W)
      (quiet : (b : B) (channel event : ℕ) (after : B) → signalled b channel event after → lit after ≡ lit b) where
    -- the counted net s is at the lines of the run
    pub record Sound (s : Counting) (st : State B) : Type 0 where
      pub counts : Counts n s.marking
      pub same : (p : ℕ) → s.marking p ≡ one_in (lit st.board) p
      pub shut_same : s.shut ≡ closed st.board
      pub going_same : s.going ≡ st.going

    -- it answers as the lines do
    answer_same : (s : Counting) (st : State B) → Sound s st → (call : Call)
        → counted_answer add n strands weights s call ≡ answered add strands weights (has (lit st.board)) (fire_outcome n (lit st.board) (closed st.board)) st.going call
    answer_same s st sound call =
        let tests : holds_one s.marking ≡ has (lit st.board) = λ i p. (ap (λ k. eqb k 1) (sound.same p) ∙ one_is_lit (has (lit st.board) p)) i in
        let fires : counted_fire n s.marking s.shut ≡ fire_outcome n (lit st.board) (closed st.board) =
        λ i t. (ap (λ c. counted_fire n s.marking c t) sound.shut_same ∙ fire_same s.marking sound.counts (lit st.board) sound.same (closed st.board) t) i in
        λ i. answered add strands weights (tests i) (fires i) (sound.going_same i) call

    -- where the board stays, only the going may change
    stays : (s : Counting) (st st' : State B) (g : Bool) → Sound s st → st'.board ≡ st.board → st'.going ≡ g → Sound (record { marking = s.marking; shut = s.shut; going = g }) st'
    stays s st st' g sound e h = record {
      counts = sound.counts;
      same = λ p. sound.same p ∙ ap (λ b. one_in (lit b) p) (sym e);
      shut_same = sound.shut_same ∙ ap closed (sym e);
      going_same = sym h;
    }

    -- a fire, by whether the run goes and by its outcome
    after_fire : (s : Counting) (st st' : State B) (t : ℕ) → Sound s st → st'.going ≡ s.going → (g : Bool) (o : Outcome) → fire_outcome n (lit st.board) (closed st.board) t ≡ o
        → cond (is_done {W = W} (cond g (told o) Absent)) (Laid lit closed (exchange (lit st.board) (n.takes t) (n.gives t)) st.board st'.board) (st'.board ≡ st.board)
        → Sound (cond (g && is_ok o) (record { marking = fired n t s.marking; shut = s.shut; going = s.going }) s) st'
    after_fire s st st' t sound h true (Ok u) is laid =
        let ok = fire_accepted n kept narrow (lit st.board) (closed st.board) t is in
        record {
          counts = fired_counts s.marking sound.counts (lit st.board) sound.same t ok;
          same = λ p. fired_same s.marking sound.counts (lit st.board) sound.same t ok p ∙ ap (λ k. one_in k p) (sym laid.lines);
          shut_same = sound.shut_same ∙ sym laid.channel;
          going_same = sym h;
        }
    after_fire s st st' t sound h true (Err why) is e = stays s st st' s.going sound e h
    after_fire s st st' t sound h false o is e = stays s st st' s.going sound e h

    -- a home, by whether the run goes
    after_home : (s : Counting) (st st' : State B) → Sound s st → st'.going ≡ s.going → (g : Bool)
        → cond (is_done {W = W} (cond g Absent Done)) (Laid lit closed n.marks st.board st'.board) (st'.board ≡ st.board)
        → Sound (cond g s (record { marking = initial n; shut = s.shut; going = s.going })) st'
    after_home s st st' sound h true e = stays s st st' s.going sound e h
    after_home s st st' sound h false laid = record {
      counts = counts_at_start n kept;
      same = λ p. ap (λ k. one_in k p) (sym laid.lines);
      shut_same = sound.shut_same ∙ sym laid.channel;
      going_same = sym h;
    }

    after_sound : (s : Counting) (st st' : State B) (call : Call) (a : Answer W) → Sound s st → Step lit closed signalled add n strands weights call a st st'
        → Sound (counted_after n s call (closed st'.board)) st'
    after_sound s st st' (Fire t) a sound step =
        let same = ap (λ c. counted_fire n s.marking c t) sound.shut_same ∙ fire_same s.marking sound.counts (lit st.board) sound.same (closed st.board) t in
        let after = after_fire s st st' t sound (step.goes_on ∙ sym sound.going_same) st.going (fire_outcome n (lit st.board) (closed st.board) t) refl
        (subst (λ (x : Answer W). cond (is_done x) (Laid lit closed (exchange (lit st.board) (n.takes t) (n.gives t)) st.board st'.board) (st'.board ≡ st.board)) step.by_lines step.moved) in
        subst (λ (g : Bool). Sound (cond (g && is_ok (counted_fire n s.marking s.shut t)) (record { marking = fired n t s.marking; shut = s.shut; going = s.going }) s) st') (sym sound.going_same)
        (subst (λ (o : Outcome). Sound (cond (st.going && is_ok o) (record { marking = fired n t s.marking; shut = s.shut; going = s.going }) s) st') (sym same) after)
    after_sound s st st' (Signal channel event) a sound step = record {
      counts = sound.counts;
      same = λ p. sound.same p ∙ ap (λ k. one_in k p) (sym (quiet st.board channel event st'.board step.moved));
      shut_same = refl;
      going_same = sound.going_same ∙ sym step.goes_on;
    }
    after_sound s st st' Halt a sound step = stays s st st' false sound step.moved step.goes_on
    after_sound s st st' Resume a sound step = stays s st st' true sound step.moved step.goes_on
    after_sound s st st' Home a sound step =
        subst (λ (g : Bool). Sound (cond g s (record { marking = initial n; shut = s.shut; going = s.going })) st') (sym sound.going_same)
        (after_home s st st' sound (step.goes_on ∙ sym sound.going_same) st.going
        (subst (λ (x : Answer W). cond (is_done x) (Laid lit closed n.marks st.board st'.board) (st'.board ≡ st.board)) step.by_lines step.moved))
    after_sound s st st' (Read l) a sound step = stays s st st' s.going sound step.moved (step.goes_on ∙ sym sound.going_same)
    after_sound s st st' (Station k) a sound step = stays s st st' s.going sound step.moved (step.goes_on ∙ sym sound.going_same)
    after_sound s st st' Weigh a sound step = stays s st st' s.going sound step.moved (step.goes_on ∙ sym sound.going_same)

    -- no place counts more than 1, and the lit lines are the places that count 1
    pub shown : (s : Counting) (st : State B) → Sound s st → Shows n (lit st.board) s.marking
    shown s st sound = record {
      one_at_most = λ p. let e = sound.same p in let h = counts_once (lit st.board) p in omega arith;
      lit_where_counted = λ p. (
        λ is. let one = sound.same p ∙ (counts_in (lit st.board) p).0 is in
            (⊎_elim (λ lt. lt) (λ le. absurd (let e = sound.counts.past p le in omega arith)) (cases_lt p n.places), one),
        λ h. (counts_in (lit st.board) p).1 (sym (sound.same p) ∙ h.1),
      );
    }

    -- a whole log
    pub chain_follows : (s : Counting) (st : State B) (log : List (Entry W)) (st' : State B) → Sound s st → Chain lit closed signalled add n strands weights st log st'
        → (s' : Counting) × Follows lit closed signalled add n strands weights s st.board log s' st'.board × Sound s' st'
    chain_follows s st [] st' sound e = (s, (refl, ap (λ (x : State B). x.board) e), subst (Sound s) e sound)
    chain_follows s st (e ∷ es) st' sound (m, step, rest) =
        let after = after_sound s st m e.call e.answer sound step in
        let later = chain_follows (counted_after n s e.call (closed m.board)) m es st' after rest in
        (later.0, (m.board, step.moved, step.by_lines ∙ sym (answer_same s st sound e.call), shown (counted_after n s e.call (closed m.board)) m after, later.1), later.2)

-- ---- the counted net never answers that a place that is given is lit

abbrev zero_one : Type 0
zero_one = ◌≡◌ {A = ℕ} 0 1

fire_not_occupied : {W : Type 0} (b g : Bool) (u c : Option ℕ) (p : ℕ) → ◌≡◌ {A = Answer W} (cond g (told (refuse_if b NoSuchTransition (refuse_at u Unlit (refuse_at c Shut (Ok tt))))) Absent) (Refused (Occupied p)) → ⊥
fire_not_occupied true true u c p e = let z : zero_one = cc in omega arith
fire_not_occupied false true (Some q) c p e = let z : zero_one = cc in omega arith
fire_not_occupied false true None (Some d) p e = let z : zero_one = cc in omega arith
fire_not_occupied false true None None p e = let z : zero_one = cc in omega arith
fire_not_occupied b false u c p e = let z : zero_one = cc in omega arith

done_not_occupied : {W : Type 0} (g : Bool) (p : ℕ) → ◌≡◌ {A = Answer W} (cond g Done Absent) (Refused (Occupied p)) → ⊥
done_not_occupied true p e = let z : zero_one = cc in omega arith
done_not_occupied false p e = let z : zero_one = cc in omega arith

absent_not_occupied : {W : Type 0} (g : Bool) (p : ℕ) → ◌≡◌ {A = Answer W} (cond g Absent Done) (Refused (Occupied p)) → ⊥
absent_not_occupied true p e = let z : zero_one = cc in omega arith
absent_not_occupied false p e = let z : zero_one = cc in omega arith

station_not_occupied : {W : Type 0} (test : ℕ → Bool) (o : Option ℕ) (p : ℕ) → ◌≡◌ {A = Answer W} (told_station (station_outcome test o)) (Refused (Occupied p)) → ⊥
station_not_occupied test (Some s) p e = let z : zero_one = cc in omega arith
station_not_occupied test None p e = let z : zero_one = cc in omega arith

module _ {B W : Type 0} (lit : B → ℕ) (closed : B → Option ℕ) (signalled : B → ℕ → ℕ → B → Type 0) (add : Addition W) (n : PetriNet) (strands : List ℕ) (weights : List W) where
  answer_not_occupied : (s : Counting) (call : Call) (p : ℕ) → counted_answer add n strands weights s call ≡ Refused (Occupied p) → ⊥
  answer_not_occupied s (Fire t) p e = fire_not_occupied (leb n.transitions t) s.going (lowest_of (n.takes t) (λ q. eqb (s.marking q) 0)) s.shut p e
  answer_not_occupied s (Signal c v) p e = let z : zero_one = cc in omega arith
  answer_not_occupied s Halt p e = done_not_occupied s.going p e
  answer_not_occupied s Resume p e = absent_not_occupied s.going p e
  answer_not_occupied s Home p e = absent_not_occupied s.going p e
  answer_not_occupied s (Read l) p e = let z : zero_one = cc in omega arith
  answer_not_occupied s (Station k) p e = station_not_occupied (holds_one s.marking) (slice_get strands k) p e
  answer_not_occupied s Weigh p e = let z : zero_one = cc in omega arith

  pub none_occupied : (s : Counting) (b : B) (log : List (Entry W)) (s' : Counting) (b' : B) → Follows lit closed signalled add n strands weights s b log s' b' → NoneOccupied log
  none_occupied s b [] s' b' follows = tt
  none_occupied s b (e ∷ es) s' b' (next, moved, answers, shows, rest) =
      (λ p is. answer_not_occupied s e.call p (sym answers ∙ is), none_occupied (counted_after n s e.call (closed next)) next es s' b' rest)
