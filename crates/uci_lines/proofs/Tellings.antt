-- The report of a search, as a relation and as a function.
use Rattle.std.proofs.Common.{◌≡◌, ◌≢◌, ℕ, zero, suc, ◌<◌, ◌≤◌, ℤ, ◌⊎◌, inl, inr, List, [], ◌∷◌, Bool, true, false, Option, Some, None, is_none, is_some, codes, cond, length, refl, sym, ap, ◌∙◌, subst, arith}
use Rattle.std.specs.Option.{option_or, option_map}
use Rattle.std.proofs.lemmas.Bool.{both_ways}
use Rattle.chess_board.specs.declared.board.Move.{Move}
use Rattle.protocol_tokens.specs.Numbers.{count, centis}
use Rattle.uci_lines.specs.declared.messages.Score.TheVariants.{Cp, Mate}
use Rattle.uci_lines.specs.declared.info.InfoField.{InfoField}
use Rattle.uci_lines.specs.declared.info.InfoField.TheVariants as fields
use Rattle.uci_lines.specs.Cuts.{is_word}
use Rattle.chess_board.specs.Spelling.{move_spelled_by}
use Rattle.uci_lines.specs.Moves.{add_move, longest_move_run, after_run}
use Rattle.uci_lines.specs.Info.{Info}
use Rattle.uci_lines.specs.Infos.{field_named, first_count, first_score, first_move, newer_run, hear, ends_info, facts_from}
use Rattle.uci_lines.specs.Spells.{PerhapsMove, NoMoveFirst, IsRun, FieldTakesValue, ReportsFacts}
use Rattle.uci_lines.proofs.Counts.{same_text, text_same}
use Rattle.uci_lines.proofs.Listings.{perhaps_is, is_perhaps}
use Rattle.chess_board.proofs.Spelled.{move_spells, spells_move}

-- A token that is a value names no field.
not_word : (r : List ℕ → Bool) (t w : List ℕ) (b : Bool) → is_word w t ≡ b → r t ≡ true → r w ≡ false → b ≡ false
not_word r t w false e h k = refl
not_word r t w true e h k = absurd (both_ways (r t) (ap r (same_text t w e) ∙ k) h)

plain : (r : List ℕ → Bool) (t : List ℕ) → r t ≡ true → r (codes "depth") ≡ false → r (codes "time") ≡ false → r (codes "nodes") ≡ false → r (codes "multipv") ≡ false → r (codes "currmovenumber") ≡ false → r (codes "score") ≡ false → r (codes "lowerbound") ≡ false → r (codes "upperbound") ≡ false → r (codes "currmove") ≡ false → r (codes "pv") ≡ false → r (codes "string") ≡ false → field_named t ≡ fields.Other
plain r t h a b c d e f g i j k l =
    rw (no (codes "depth") a, no (codes "time") b, no (codes "nodes") c, no (codes "multipv") d, no (codes "currmovenumber") e, no (codes "score") f, no (codes "lowerbound") g, no (codes "upperbound") i, no (codes "currmove") j, no (codes "pv") k, no (codes "string") l) refl
  where
    no : (w : List ℕ) → r w ≡ false → is_word w t ≡ false
    no w z = not_word r t w (is_word w t) refl h z

count_plain : (t : List ℕ) (n : ℕ) → count t ≡ Some n → field_named t ≡ fields.Other
count_plain t n h = plain (λ s. is_some (count s)) t (ap (λ o. is_some o) h) refl refl refl refl refl refl refl refl refl refl refl

centis_plain : (t : List ℕ) (n : ℤ) → centis t ≡ Some n → field_named t ≡ fields.Other
centis_plain t n h = plain (λ s. is_some (centis s)) t (ap (λ o. is_some o) h) refl refl refl refl refl refl refl refl refl refl refl

move_plain : (t : List ℕ) (m : Move) → move_spelled_by t ≡ Some m → field_named t ≡ fields.Other
unfolding move_spelled_by
move_plain t m h = plain (λ s. is_some (move_spelled_by s)) t (ap (λ o. is_some o) h) refl refl refl refl refl refl refl refl refl refl refl

passed : (f : Info) (t : List ℕ) (ts : List (List ℕ)) → field_named t ≡ fields.Other → facts_from f (t ∷ ts) ≡ facts_from f ts
passed f t ts e = ap (λ k. cond (ends_info k) f (facts_from (hear k f ts) ts)) e

-- RUNS OF MOVES

no_run : (ts : List (List ℕ)) → NoMoveFirst ts → longest_move_run ts ≡ []
no_run [] h = refl
no_run (t ∷ ts) h = ap (λ o. add_move o (longest_move_run ts)) (sym (perhaps_is t None h))

run_is : (ts : List (List ℕ)) (moves : List Move) (others : List (List ℕ)) → IsRun ts moves others → longest_move_run ts ≡ moves
run_is ts _ _ (IsRun.Ends h) = no_run ts h
run_is _ _ others (IsRun.Goes {t = t} {m = m} {ts = ts} {moves = moves} s r) = ap (λ o. add_move o (longest_move_run ts)) (spells_move t m s) ∙ ap (λ ms. m ∷ ms) (run_is ts moves others r)

run_passed : (f : Info) (ts : List (List ℕ)) (moves : List Move) (others : List (List ℕ)) → IsRun ts moves others → facts_from f ts ≡ facts_from f others
run_passed f ts _ _ (IsRun.Ends h) = refl
run_passed f _ _ others (IsRun.Goes {t = t} {m = m} {ts = ts} {moves = moves} s r) = passed f t ts (move_plain t m (spells_move t m s)) ∙ run_passed f ts moves others r

after_by : (o : Option Move) (f : Info) (t : List ℕ) (ts us : List (List ℕ)) → move_spelled_by t ≡ o
    → facts_from f us ≡ facts_from f ts → facts_from f (cond (is_none o) (t ∷ ts) us) ≡ facts_from f (t ∷ ts)
after_by None f t ts us e h = refl
after_by (Some m) f t ts us e h = h ∙ sym (passed f t ts (move_plain t m e))

-- no move text tells anything by itself
pub facts_after : (f : Info) (ts : List (List ℕ)) → facts_from f (after_run ts) ≡ facts_from f ts
facts_after f [] = refl
facts_after f (t ∷ ts) = after_by (move_spelled_by t) f t ts (after_run ts) refl (facts_after f ts)

record Runs (ts : List (List ℕ)) (moves : List Move) : Type 0 where
  others : List (List ℕ)
  is_run : IsRun ts moves others
  fits : length others ≤ length ts

runs_by : (t : List ℕ) (ts : List (List ℕ)) (o : Option Move) → move_spelled_by t ≡ o → Runs ts (longest_move_run ts) → Runs (t ∷ ts) (add_move o (longest_move_run ts))
runs_by t ts None e r = record { others = t ∷ ts; is_run = IsRun.Ends (subst (λ (o : Option Move). PerhapsMove t o) e (is_perhaps t)); fits = omega arith }
runs_by t ts (Some m) e r = record { others = r.others; is_run = IsRun.Goes (move_spells t m e) r.is_run; fits = omega (arith, r.fits) }

runs : (ts : List (List ℕ)) → Runs ts (longest_move_run ts)
runs [] = record { others = []; is_run = IsRun.Ends tt; fits = omega arith }
runs (t ∷ ts) = runs_by t ts (move_spelled_by t) refl (runs ts)

-- WHAT A FIELD TAKES

pub takes_is : (f : Info) (ts : List (List ℕ)) (g : Info) (others : List (List ℕ)) → FieldTakesValue f ts g others → facts_from f ts ≡ facts_from g others
takes_is f _ _ _ (FieldTakesValue.Depth {t = t} {ts = ts} {n = n} e) = ap (λ o. facts_from (record f { depth = option_or o f.depth }) (t ∷ ts)) e ∙ passed (record f { depth = Some n }) t ts (count_plain t n e)
takes_is f _ _ _ (FieldTakesValue.Time {t = t} {ts = ts} {n = n} e) = ap (λ o. facts_from (record f { time = option_or o f.time }) (t ∷ ts)) e ∙ passed (record f { time = Some n }) t ts (count_plain t n e)
takes_is f _ _ _ (FieldTakesValue.Nodes {t = t} {ts = ts} {n = n} e) = ap (λ o. facts_from (record f { nodes = option_or o f.nodes }) (t ∷ ts)) e ∙ passed (record f { nodes = Some n }) t ts (count_plain t n e)
takes_is f _ _ _ (FieldTakesValue.MultiPv {t = t} {ts = ts} {n = n} e) = ap (λ o. facts_from (record f { multipv = option_or o f.multipv }) (t ∷ ts)) e ∙ passed (record f { multipv = Some n }) t ts (count_plain t n e)
takes_is f _ _ _ (FieldTakesValue.Number {t = t} {ts = ts} {n = n} e) = ap (λ o. facts_from (record f { number = option_or o f.number }) (t ∷ ts)) e ∙ passed (record f { number = Some n }) t ts (count_plain t n e)
takes_is f _ _ _ (FieldTakesValue.Centipawns {t = t} {ts = ts} {n = n} e) = ap (λ o. facts_from (record f { score = option_or (option_map (λ k. Cp k) o) f.score }) (t ∷ ts)) e ∙ passed (record f { score = Some (Cp n) }) t ts (centis_plain t n e)
takes_is f _ _ _ (FieldTakesValue.ToMate {t = t} {ts = ts} {n = n} e) = ap (λ o. facts_from (record f { score = option_or (option_map (λ k. Mate k) o) f.score }) (t ∷ ts)) e ∙ passed (record f { score = Some (Mate n) }) t ts (centis_plain t n e)
takes_is f _ _ _ FieldTakesValue.LowerBound = refl
takes_is f _ _ _ FieldTakesValue.UpperBound = refl
takes_is f _ _ _ (FieldTakesValue.Current {t = t} {ts = ts} {m = m} s) = ap (λ o. facts_from (record f { current = option_or o f.current }) (t ∷ ts)) (spells_move t m s) ∙ passed (record f { current = Some m }) t ts (move_plain t m (spells_move t m s))
takes_is f _ _ _ (FieldTakesValue.Pv {ts = ts} {others = others} {m = m} {moves = moves} r) = ap (λ ms. facts_from (record f { pv = newer_run ms f.pv }) ts) (run_is ts (m ∷ moves) others r) ∙ run_passed (record f { pv = m ∷ moves }) ts (m ∷ moves) others r

some_moves : List Move → Bool
some_moves [] = false
some_moves (m ∷ moves) = true

-- true if a field takes something of the tokens after its word
taking_by : InfoField → List (List ℕ) → Bool
taking_by fields.Depth ts = is_some (first_count ts)
taking_by fields.Time ts = is_some (first_count ts)
taking_by fields.Nodes ts = is_some (first_count ts)
taking_by fields.MultiPv ts = is_some (first_count ts)
taking_by fields.Number ts = is_some (first_count ts)
taking_by fields.Score ts = is_some (first_score ts)
taking_by fields.Bound ts = true
taking_by fields.Current ts = is_some (first_move ts)
taking_by fields.Pv ts = some_moves (longest_move_run ts)
taking_by fields.Text ts = false
taking_by fields.Other ts = false

taking : List (List ℕ) → Bool
taking [] = false
taking (t ∷ ts) = taking_by (field_named t) ts

takes_taking : (f : Info) (ts : List (List ℕ)) (g : Info) (others : List (List ℕ)) → FieldTakesValue f ts g others → taking ts ≡ true
unfolding taking taking_by some_moves
takes_taking f _ _ _ (FieldTakesValue.Depth e) = ap (λ o. is_some o) e
takes_taking f _ _ _ (FieldTakesValue.Time e) = ap (λ o. is_some o) e
takes_taking f _ _ _ (FieldTakesValue.Nodes e) = ap (λ o. is_some o) e
takes_taking f _ _ _ (FieldTakesValue.MultiPv e) = ap (λ o. is_some o) e
takes_taking f _ _ _ (FieldTakesValue.Number e) = ap (λ o. is_some o) e
takes_taking f _ _ _ (FieldTakesValue.Centipawns e) = ap (λ o. is_some (option_map (λ k. Cp k) o)) e
takes_taking f _ _ _ (FieldTakesValue.ToMate e) = ap (λ o. is_some (option_map (λ k. Mate k) o)) e
takes_taking f _ _ _ FieldTakesValue.LowerBound = refl
takes_taking f _ _ _ FieldTakesValue.UpperBound = refl
takes_taking f _ _ _ (FieldTakesValue.Current {t = t} {m = m} s) = ap (λ o. is_some o) (spells_move t m s)
takes_taking f _ _ _ (FieldTakesValue.Pv {ts = ts} {others = others} {m = m} {moves = moves} r) = ap some_moves (run_is ts (m ∷ moves) others r)

-- a token and the field that it names
Named : InfoField → List ℕ → Type 0
Named fields.Depth t = t ≡ codes "depth"
Named fields.Time t = t ≡ codes "time"
Named fields.Nodes t = t ≡ codes "nodes"
Named fields.MultiPv t = t ≡ codes "multipv"
Named fields.Number t = t ≡ codes "currmovenumber"
Named fields.Score t = t ≡ codes "score"
Named fields.Bound t = (t ≡ codes "lowerbound") ⊎ (t ≡ codes "upperbound")
Named fields.Current t = t ≡ codes "currmove"
Named fields.Pv t = t ≡ codes "pv"
Named fields.Text t = t ≡ codes "string"
Named fields.Other t = Unit {0}

pick : (t w : List ℕ) (k l : InfoField) (b : Bool) → is_word w t ≡ b → (t ≡ w → Named k t) → Named l t → Named (cond b k l) t
pick t w k l true e f h = f (same_text t w e)
pick t w k l false e f h = h

named : (t : List ℕ) → Named (field_named t) t
unfolding Named
named t =
    pick t (codes "depth") fields.Depth _ (is_word (codes "depth") t) refl (λ e. e)
    (pick t (codes "time") fields.Time _ (is_word (codes "time") t) refl (λ e. e)
    (pick t (codes "nodes") fields.Nodes _ (is_word (codes "nodes") t) refl (λ e. e)
    (pick t (codes "multipv") fields.MultiPv _ (is_word (codes "multipv") t) refl (λ e. e)
    (pick t (codes "currmovenumber") fields.Number _ (is_word (codes "currmovenumber") t) refl (λ e. e)
    (pick t (codes "score") fields.Score _ (is_word (codes "score") t) refl (λ e. e)
    (pick t (codes "lowerbound") fields.Bound _ (is_word (codes "lowerbound") t) refl (λ e. inl e)
    (pick t (codes "upperbound") fields.Bound _ (is_word (codes "upperbound") t) refl (λ e. inr e)
    (pick t (codes "currmove") fields.Current _ (is_word (codes "currmove") t) refl (λ e. e)
    (pick t (codes "pv") fields.Pv _ (is_word (codes "pv") t) refl (λ e. e)
    (pick t (codes "string") fields.Text fields.Other (is_word (codes "string") t) refl (λ e. e) tt))))))))))

record Take (f : Info) (ts : List (List ℕ)) : Type 0 where
  reported : Info
  others : List (List ℕ)
  takes : FieldTakesValue f ts reported others
  shorter : length others < length ts

given : (f g : Info) (t w : List ℕ) (ts others : List (List ℕ)) → t ≡ w → length others ≤ length ts → FieldTakesValue f (w ∷ ts) g others → Take f (t ∷ ts)
given f g t w ts others e l k = record {
  reported = g;
  others = others;
  takes = subst (λ (u : List ℕ). FieldTakesValue f (u ∷ ts) g others) (sym e) k;
  shorter = omega (arith, l);
}

one_less : (u : List ℕ) (us : List (List ℕ)) → length us ≤ length (u ∷ us)
one_less u us = omega arith

two_less : (u v : List ℕ) (us : List (List ℕ)) → length us ≤ length (u ∷ v ∷ us)
two_less u v us = omega arith

some_of : {A : Type 0} → (o : Option A) → is_some o ≡ true → (n : A) × (o ≡ Some n)
some_of None h = absurd (cc)
some_of (Some n) h = (n, refl)

some_below : {A B : Type 0} → (g : A → B) (o : Option A) → is_some (option_map g o) ≡ true → (n : A) × (o ≡ Some n)
some_below g None h = absurd (cc)
some_below g (Some n) h = (n, refl)

take_score : (f : Info) (t u v : List ℕ) (us : List (List ℕ)) (a b : Bool) → t ≡ codes "score" → is_word (codes "cp") u ≡ a → is_word (codes "mate") u ≡ b → is_some (cond a (option_map (λ n. Cp n) (centis v)) (cond b (option_map (λ n. Mate n) (centis v)) None)) ≡ true → Take f (t ∷ u ∷ v ∷ us)
take_score f t u v us true b e p q h =
    let s = some_below (λ n. Cp n) (centis v) h in
    given f (record f { score = Some (Cp s.0) }) t (codes "score") (u ∷ v ∷ us) us e (two_less u v us)
    (subst (λ (w : List ℕ). FieldTakesValue f (codes "score" ∷ w ∷ v ∷ us) (record f { score = Some (Cp s.0) }) us) (sym (same_text u (codes "cp") p)) (FieldTakesValue.Centipawns s.1))
take_score f t u v us false true e p q h =
    let s = some_below (λ n. Mate n) (centis v) h in
    given f (record f { score = Some (Mate s.0) }) t (codes "score") (u ∷ v ∷ us) us e (two_less u v us)
    (subst (λ (w : List ℕ). FieldTakesValue f (codes "score" ∷ w ∷ v ∷ us) (record f { score = Some (Mate s.0) }) us) (sym (same_text u (codes "mate") q)) (FieldTakesValue.ToMate s.1))
take_score f t u v us false false e p q h = absurd (cc)

take_pv : (f : Info) (t : List ℕ) (ts : List (List ℕ)) (moves : List Move) → t ≡ codes "pv" → some_moves moves ≡ true → Runs ts moves → Take f (t ∷ ts)
unfolding some_moves
take_pv f t ts [] e h r = absurd (cc)
take_pv f t ts (m ∷ moves) e h r = given f (record f { pv = m ∷ moves }) t (codes "pv") ts r.others e r.fits (FieldTakesValue.Pv r.is_run)

take_bound : (f : Info) (t : List ℕ) (ts : List (List ℕ)) → (t ≡ codes "lowerbound") ⊎ (t ≡ codes "upperbound") → Take f (t ∷ ts)
take_bound f t ts (inl e) = given f (record f { bound = true }) t (codes "lowerbound") ts ts e (omega arith) FieldTakesValue.LowerBound
take_bound f t ts (inr e) = given f (record f { bound = true }) t (codes "upperbound") ts ts e (omega arith) FieldTakesValue.UpperBound

take_by : (k : InfoField) (f : Info) (t : List ℕ) (ts : List (List ℕ)) → Named k t → taking_by k ts ≡ true → Take f (t ∷ ts)
unfolding Named taking_by
take_by fields.Depth f t (u ∷ us) e h = let s = some_of (count u) h in given f (record f { depth = Some s.0 }) t (codes "depth") (u ∷ us) us e (one_less u us) (FieldTakesValue.Depth s.1)
take_by fields.Time f t (u ∷ us) e h = let s = some_of (count u) h in given f (record f { time = Some s.0 }) t (codes "time") (u ∷ us) us e (one_less u us) (FieldTakesValue.Time s.1)
take_by fields.Nodes f t (u ∷ us) e h = let s = some_of (count u) h in given f (record f { nodes = Some s.0 }) t (codes "nodes") (u ∷ us) us e (one_less u us) (FieldTakesValue.Nodes s.1)
take_by fields.MultiPv f t (u ∷ us) e h = let s = some_of (count u) h in given f (record f { multipv = Some s.0 }) t (codes "multipv") (u ∷ us) us e (one_less u us) (FieldTakesValue.MultiPv s.1)
take_by fields.Number f t (u ∷ us) e h = let s = some_of (count u) h in given f (record f { number = Some s.0 }) t (codes "currmovenumber") (u ∷ us) us e (one_less u us) (FieldTakesValue.Number s.1)
take_by fields.Score f t (u ∷ v ∷ us) e h = take_score f t u v us (is_word (codes "cp") u) (is_word (codes "mate") u) e refl refl h
take_by fields.Bound f t ts e h = take_bound f t ts e
take_by fields.Current f t (u ∷ us) e h = let s = some_of (move_spelled_by u) h in given f (record f { current = Some s.0 }) t (codes "currmove") (u ∷ us) us e (one_less u us) (FieldTakesValue.Current (move_spells u s.0 s.1))
take_by fields.Pv f t ts e h = take_pv f t ts (longest_move_run ts) e h (runs ts)
take_by k f t ts e h = absurd (cc)

take : (f : Info) (t : List ℕ) (ts : List (List ℕ)) → taking (t ∷ ts) ≡ true → Take f (t ∷ ts)
unfolding taking
take f t ts h = take_by (field_named t) f t ts (named t) h

-- WHAT IS SKIPPED

none_of : {A : Type 0} → (o : Option A) → is_some o ≡ false → o ≡ None
none_of None h = refl
none_of (Some n) h = absurd (cc)

empty_of : (moves : List Move) → some_moves moves ≡ false → moves ≡ []
unfolding some_moves
empty_of [] h = refl
empty_of (m ∷ moves) h = absurd (cc)

unheard : (k : InfoField) (f : Info) (ts : List (List ℕ)) → taking_by k ts ≡ false → hear k f ts ≡ f
unfolding taking_by
unheard fields.Depth f ts h = ap (λ o. record f { depth = option_or o f.depth }) (none_of (first_count ts) h)
unheard fields.Time f ts h = ap (λ o. record f { time = option_or o f.time }) (none_of (first_count ts) h)
unheard fields.Nodes f ts h = ap (λ o. record f { nodes = option_or o f.nodes }) (none_of (first_count ts) h)
unheard fields.MultiPv f ts h = ap (λ o. record f { multipv = option_or o f.multipv }) (none_of (first_count ts) h)
unheard fields.Number f ts h = ap (λ o. record f { number = option_or o f.number }) (none_of (first_count ts) h)
unheard fields.Score f ts h = ap (λ o. record f { score = option_or o f.score }) (none_of (first_score ts) h)
unheard fields.Bound f ts h = absurd (cc)
unheard fields.Current f ts h = ap (λ o. record f { current = option_or o f.current }) (none_of (first_move ts) h)
unheard fields.Pv f ts h = ap (λ ms. record f { pv = newer_run ms f.pv }) (empty_of (longest_move_run ts) h)
unheard k f ts h = refl

ends_by : (k : InfoField) (t : List ℕ) → Named k t → t ≢ codes "string" → ends_info k ≡ false
unfolding Named
ends_by fields.Text t e h = absurd (h e)
ends_by k t e h = refl

skipped : (f : Info) (t : List ℕ) (ts : List (List ℕ)) → t ≢ codes "string" → taking (t ∷ ts) ≡ false → facts_from f (t ∷ ts) ≡ facts_from f ts
unfolding taking
skipped f t ts n h =
    ap (λ b. cond b f (facts_from (hear (field_named t) f ts) ts)) (ends_by (field_named t) t (named t) n)
    ∙ ap (λ g. facts_from g ts) (unheard (field_named t) f ts h)

-- BOTH WAYS

skip_by : (b : Bool) (f : Info) (t : List ℕ) (ts : List (List ℕ)) → taking (t ∷ ts) ≡ b → t ≢ codes "string" → ((g : Info) (others : List (List ℕ)) → FieldTakesValue f (t ∷ ts) g others → ⊥) → facts_from f (t ∷ ts) ≡ facts_from f ts
skip_by true f t ts e n s = let k = take f t ts e in absurd (s k.reported k.others k.takes)
skip_by false f t ts e n s = skipped f t ts n e

pub reports_is : (f : Info) (ts : List (List ℕ)) (h : Info) → ReportsFacts f ts h → facts_from f ts ≡ h
reports_is f _ _ ReportsFacts.End = refl
reports_is f _ _ ReportsFacts.Rest = refl
reports_is f ts h (ReportsFacts.Taken {g = g} {others = others} k r) = takes_is f ts g others k ∙ reports_is g others h r
reports_is f _ h (ReportsFacts.Skipped {t = t} {ts = ts} n s r) = skip_by (taking (t ∷ ts)) f t ts refl n s ∙ reports_is f ts h r

string_or : (b : Bool) (f : Info) (t : List ℕ) (ts : List (List ℕ)) → is_word (codes "string") t ≡ b → taking (t ∷ ts) ≡ false → ReportsFacts f ts (facts_from f ts) → ReportsFacts f (t ∷ ts) (facts_from f (t ∷ ts))
string_or true f t ts e h r = subst (λ (w : List ℕ). ReportsFacts f (w ∷ ts) (facts_from f (w ∷ ts))) (sym (same_text t (codes "string") e)) ReportsFacts.Rest
string_or false f t ts e h r =
    let other : t ≢ codes "string" = λ same. both_ways (is_word (codes "string") t) e (text_same t (codes "string") same) in
    subst (λ (g : Info). ReportsFacts f (t ∷ ts) g) (sym (skipped f t ts other h))
    (ReportsFacts.Skipped other (λ g others k. both_ways (taking (t ∷ ts)) h (takes_taking f (t ∷ ts) g others k)) r)

reports_by : (b : Bool) (f : Info) (t : List ℕ) (ts : List (List ℕ)) → taking (t ∷ ts) ≡ b → ((g : Info) (us : List (List ℕ)) → length us < length (t ∷ ts) → ReportsFacts g us (facts_from g us)) → ReportsFacts f (t ∷ ts) (facts_from f (t ∷ ts))
reports_by true f t ts e i =
    let k = take f t ts e in
    subst (λ (g : Info). ReportsFacts f (t ∷ ts) g) (sym (takes_is f (t ∷ ts) k.reported k.others k.takes)) (ReportsFacts.Taken k.takes (i k.reported k.others k.shorter))
reports_by false f t ts e i = string_or (is_word (codes "string") t) f t ts refl e (i f ts (omega arith))

reports_within : (n : ℕ) (f : Info) (ts : List (List ℕ)) → length ts < n → ReportsFacts f ts (facts_from f ts)
reports_within zero f ts l = absurd (omega (arith, l))
reports_within (suc n) f [] l = ReportsFacts.End
reports_within (suc n) f (t ∷ ts) l = reports_by (taking (t ∷ ts)) f t ts refl (λ g us k. reports_within n g us (omega (arith, l, k)))

pub reports : (f : Info) (ts : List (List ℕ)) → ReportsFacts f ts (facts_from f ts)
reports f ts = reports_within (suc (length ts)) f ts (omega arith)
