-- The text written of a search tells the same.
use Rattle.std.proofs.Common.{◌≡◌, ℕ, ◌^◌, ◌<◌, List, [], ◌∷◌, ◌++◌, Bool, true, false, Option, Some, None, codes, refl, sym, ap, ◌∙◌, subst, arith, append_assoc}
use Rattle.std.specs.Prelude.{ℤ, nat_abs}
use Rattle.std.specs.Option.{IfSome}
use Rattle.std.specs.Fmt.{decimal, signed_decimal}
use Rattle.chess_board.specs.declared.board.Move.{Move}
use Rattle.chess_board.specs.Text.{text_of_move, IsOfficer}
use Rattle.chess_board.proofs.Spelled.{spelled_officer}
use Rattle.chess_board.proofs.Texts.{reads-back}
use Rattle.protocol_tokens.specs.Tokens.{is_token, tokens}
use Rattle.protocol_tokens.proofs.Sizes.{digits_small, centis_small}
use Rattle.protocol_tokens.proofs.Written.{count_decimal, decimal_token, signed_token, centis_decimal_read}
use Rattle.uci_lines.specs.declared.messages.Score.{Score}
use Rattle.uci_lines.specs.declared.messages.Score.TheVariants.{Cp, Mate}
use Rattle.uci_lines.specs.Orders.{optional_number}
use Rattle.uci_lines.specs.Infos.{no_facts}
use Rattle.uci_lines.specs.Scores.{IsCentis}
use Rattle.uci_lines.specs.Info.{Info as AnyInfo}
use Rattle.uci_lines.specs.Messages.{Info}
use Rattle.uci_lines.specs.Spells.{IsRun, FieldTakesValue, ReportsFacts, HasForm}
use Rattle.uci_interface_lines.specs.Said.{said_score_text, bound_text, move_after_word, each_move, pv_text, facts_text, said_text}
use Rattle.uci_lines.specs.Writable.{can_write}
use Rattle.uci_lines.proofs.Prefixes.{BeginsWhite}
use Rattle.uci_interface_lines.proofs.Kept.{tokens_prefix}
use Rattle.uci_interface_lines.proofs.Again.{begins_with}
use Rattle.uci_lines.proofs.MoveTokens.{move_token}

-- WHAT IS REPORTED FITS

abbrev pub is_small : Option ℕ → Type 0
is_small n = IfSome n (λ k. k < 10 ^ 18)

abbrev pub AllOfficers : List Move → Type 0
AllOfficers [] = Unit {0}
AllOfficers (m ∷ moves) = IsOfficer m.promotion × AllOfficers moves

-- the numbers are as short as those that are read, and the moves can be written
pub record Fits (f : AnyInfo) : Type 0 where
  pub depth : is_small f.depth
  pub time : is_small f.time
  pub nodes : is_small f.nodes
  pub multipv : is_small f.multipv
  pub number : is_small f.number
  pub score : IfSome f.score IsCentis
  pub current : can_write f.current
  pub pv : AllOfficers f.pv

run_officers : (ts : List (List ℕ)) (moves : List Move) (others : List (List ℕ)) → IsRun ts moves others → AllOfficers moves
run_officers ts _ _ (IsRun.Ends h) = tt
run_officers _ _ others (IsRun.Goes {t = t} {m = m} {ts = ts} {moves = moves} s r) = (spelled_officer t m s, run_officers ts moves others r)

take_fits : (f : AnyInfo) (ts : List (List ℕ)) (g : AnyInfo) (others : List (List ℕ)) → FieldTakesValue f ts g others → Fits f → Fits g
take_fits f _ _ _ (FieldTakesValue.Depth {t = t} {n = n} e) h = record { depth = digits_small 18 t n e; time = h.time; nodes = h.nodes; multipv = h.multipv; number = h.number; score = h.score; current = h.current; pv = h.pv }
take_fits f _ _ _ (FieldTakesValue.Time {t = t} {n = n} e) h = record { depth = h.depth; time = digits_small 18 t n e; nodes = h.nodes; multipv = h.multipv; number = h.number; score = h.score; current = h.current; pv = h.pv }
take_fits f _ _ _ (FieldTakesValue.Nodes {t = t} {n = n} e) h = record { depth = h.depth; time = h.time; nodes = digits_small 18 t n e; multipv = h.multipv; number = h.number; score = h.score; current = h.current; pv = h.pv }
take_fits f _ _ _ (FieldTakesValue.MultiPv {t = t} {n = n} e) h = record { depth = h.depth; time = h.time; nodes = h.nodes; multipv = digits_small 18 t n e; number = h.number; score = h.score; current = h.current; pv = h.pv }
take_fits f _ _ _ (FieldTakesValue.Number {t = t} {n = n} e) h = record { depth = h.depth; time = h.time; nodes = h.nodes; multipv = h.multipv; number = digits_small 18 t n e; score = h.score; current = h.current; pv = h.pv }
take_fits f _ _ _ (FieldTakesValue.Centipawns {t = t} {n = n} e) h = record { depth = h.depth; time = h.time; nodes = h.nodes; multipv = h.multipv; number = h.number; score = centis_small t n e; current = h.current; pv = h.pv }
take_fits f _ _ _ (FieldTakesValue.ToMate {t = t} {n = n} e) h = record { depth = h.depth; time = h.time; nodes = h.nodes; multipv = h.multipv; number = h.number; score = centis_small t n e; current = h.current; pv = h.pv }
take_fits f _ _ _ FieldTakesValue.LowerBound h = record { depth = h.depth; time = h.time; nodes = h.nodes; multipv = h.multipv; number = h.number; score = h.score; current = h.current; pv = h.pv }
take_fits f _ _ _ FieldTakesValue.UpperBound h = record { depth = h.depth; time = h.time; nodes = h.nodes; multipv = h.multipv; number = h.number; score = h.score; current = h.current; pv = h.pv }
take_fits f _ _ _ (FieldTakesValue.Current {t = t} {m = m} s) h = record { depth = h.depth; time = h.time; nodes = h.nodes; multipv = h.multipv; number = h.number; score = h.score; current = spelled_officer t m s; pv = h.pv }
take_fits f _ _ _ (FieldTakesValue.Pv {ts = ts} {others = others} {m = m} {moves = moves} r) h = record { depth = h.depth; time = h.time; nodes = h.nodes; multipv = h.multipv; number = h.number; score = h.score; current = h.current; pv = run_officers ts (m ∷ moves) others r }

pub reports_fits : (f : AnyInfo) (ts : List (List ℕ)) (h : AnyInfo) → ReportsFacts f ts h → Fits f → Fits h
reports_fits f _ _ ReportsFacts.End k = k
reports_fits f _ _ ReportsFacts.Rest k = k
reports_fits f ts h (ReportsFacts.Taken {g = g} {others = others} t u) k = reports_fits g others h u (take_fits f ts g others t k)
reports_fits f _ h (ReportsFacts.Skipped {t = t} {ts = ts} n s u) k = reports_fits f ts h u k

pub none_fits : Fits no_facts
none_fits = record { depth = tt; time = tt; nodes = tt; multipv = tt; number = tt; score = tt; current = tt; pv = tt }

-- THE TOKENS OF WHAT IS WRITTEN

two_tokens : (word t more : List ℕ) → is_token word ≡ true → is_token t ≡ true → BeginsWhite more → tokens (32 ∷ (word ++ (32 ∷ (t ++ more)))) ≡ word ∷ t ∷ tokens more
two_tokens word t more h k w = tokens_prefix word (32 ∷ (t ++ more)) h refl ∙ ap (λ ts. word ∷ ts) (tokens_prefix t more k w)

count_token : (n : ℕ) → n < 10 ^ 18 → is_token (decimal n) ≡ true
count_token n h = decimal_token n (omega (arith, h))

centis_token : (n : ℤ) → nat_abs n < 10 ^ 9 → is_token (signed_decimal n) ≡ true
centis_token n h = signed_token n (omega (arith, h))

-- a field in front of others
taken : (f g h : AnyInfo) (more : List ℕ) (ts us : List (List ℕ)) → ts ≡ us → FieldTakesValue f us g (tokens more) → ReportsFacts g (tokens more) h → ReportsFacts f ts h
taken f g h more ts us e t k = ReportsFacts.Taken (subst (λ (vs : List (List ℕ)). FieldTakesValue f vs g (tokens more)) (sym e) t) k

depth_reported : (f h : AnyInfo) (n : Option ℕ) (more : List ℕ) → f.depth ≡ None → is_small n → BeginsWhite more → ReportsFacts (record f { depth = n }) (tokens more) h → ReportsFacts f (tokens (optional_number (codes " depth ") n ++ more)) h
depth_reported f h None more e s w k = subst (λ (o : Option ℕ). ReportsFacts (record f { depth = o }) (tokens more) h) (sym e) k
depth_reported f h (Some n) more e s w k = taken f (record f { depth = Some n }) h more _ _ (two_tokens (codes "depth") (decimal n) more refl (count_token n s) w) (FieldTakesValue.Depth (count_decimal n s)) k

time_reported : (f h : AnyInfo) (n : Option ℕ) (more : List ℕ) → f.time ≡ None → is_small n → BeginsWhite more → ReportsFacts (record f { time = n }) (tokens more) h → ReportsFacts f (tokens (optional_number (codes " time ") n ++ more)) h
time_reported f h None more e s w k = subst (λ (o : Option ℕ). ReportsFacts (record f { time = o }) (tokens more) h) (sym e) k
time_reported f h (Some n) more e s w k = taken f (record f { time = Some n }) h more _ _ (two_tokens (codes "time") (decimal n) more refl (count_token n s) w) (FieldTakesValue.Time (count_decimal n s)) k

nodes_reported : (f h : AnyInfo) (n : Option ℕ) (more : List ℕ) → f.nodes ≡ None → is_small n → BeginsWhite more → ReportsFacts (record f { nodes = n }) (tokens more) h → ReportsFacts f (tokens (optional_number (codes " nodes ") n ++ more)) h
nodes_reported f h None more e s w k = subst (λ (o : Option ℕ). ReportsFacts (record f { nodes = o }) (tokens more) h) (sym e) k
nodes_reported f h (Some n) more e s w k = taken f (record f { nodes = Some n }) h more _ _ (two_tokens (codes "nodes") (decimal n) more refl (count_token n s) w) (FieldTakesValue.Nodes (count_decimal n s)) k

multipv_reported : (f h : AnyInfo) (n : Option ℕ) (more : List ℕ) → f.multipv ≡ None → is_small n → BeginsWhite more → ReportsFacts (record f { multipv = n }) (tokens more) h → ReportsFacts f (tokens (optional_number (codes " multipv ") n ++ more)) h
multipv_reported f h None more e s w k = subst (λ (o : Option ℕ). ReportsFacts (record f { multipv = o }) (tokens more) h) (sym e) k
multipv_reported f h (Some n) more e s w k = taken f (record f { multipv = Some n }) h more _ _ (two_tokens (codes "multipv") (decimal n) more refl (count_token n s) w) (FieldTakesValue.MultiPv (count_decimal n s)) k

number_reported : (f h : AnyInfo) (n : Option ℕ) (more : List ℕ) → f.number ≡ None → is_small n → BeginsWhite more → ReportsFacts (record f { number = n }) (tokens more) h → ReportsFacts f (tokens (optional_number (codes " currmovenumber ") n ++ more)) h
number_reported f h None more e s w k = subst (λ (o : Option ℕ). ReportsFacts (record f { number = o }) (tokens more) h) (sym e) k
number_reported f h (Some n) more e s w k = taken f (record f { number = Some n }) h more _ _ (two_tokens (codes "currmovenumber") (decimal n) more refl (count_token n s) w) (FieldTakesValue.Number (count_decimal n s)) k

unit_tokens : (unit t more : List ℕ) → is_token unit ≡ true → is_token t ≡ true → BeginsWhite more → tokens (codes " score " ++ (unit ++ (32 ∷ (t ++ more)))) ≡ codes "score" ∷ unit ∷ t ∷ tokens more
unit_tokens unit t more h k w = tokens_prefix (codes "score") (32 ∷ (unit ++ (32 ∷ (t ++ more)))) refl refl ∙ ap (λ ts. codes "score" ∷ ts) (two_tokens unit t more h k w)

score_reported : (f h : AnyInfo) (s : Option Score) (more : List ℕ) → f.score ≡ None → IfSome s IsCentis → BeginsWhite more → ReportsFacts (record f { score = s }) (tokens more) h → ReportsFacts f (tokens (said_score_text s ++ more)) h
score_reported f h None more e s w k = subst (λ (o : Option Score). ReportsFacts (record f { score = o }) (tokens more) h) (sym e) k
score_reported f h (Some (Cp n)) more e s w k = taken f (record f { score = Some (Cp n) }) h more _ _ (unit_tokens (codes "cp") (signed_decimal n) more refl (centis_token n s) w) (FieldTakesValue.Centipawns (centis_decimal_read n s)) k
score_reported f h (Some (Mate n)) more e s w k = taken f (record f { score = Some (Mate n) }) h more _ _ (unit_tokens (codes "mate") (signed_decimal n) more refl (centis_token n s) w) (FieldTakesValue.ToMate (centis_decimal_read n s)) k

bound_reported : (f h : AnyInfo) (b : Bool) (more : List ℕ) → f.bound ≡ false → BeginsWhite more → ReportsFacts (record f { bound = b }) (tokens more) h → ReportsFacts f (tokens (bound_text b ++ more)) h
bound_reported f h false more e w k = subst (λ (b : Bool). ReportsFacts (record f { bound = b }) (tokens more) h) (sym e) k
bound_reported f h true more e w k = taken f (record f { bound = true }) h more _ _ (tokens_prefix (codes "lowerbound") more refl w) FieldTakesValue.LowerBound k

current_reported : (f h : AnyInfo) (m : Option Move) (more : List ℕ) → f.current ≡ None → can_write m → BeginsWhite more → ReportsFacts (record f { current = m }) (tokens more) h → ReportsFacts f (tokens (move_after_word (codes " currmove ") m ++ more)) h
current_reported f h None more e s w k = subst (λ (o : Option Move). ReportsFacts (record f { current = o }) (tokens more) h) (sym e) k
current_reported f h (Some m) more e s w k = taken f (record f { current = Some m }) h more _ _ (two_tokens (codes "currmove") (text_of_move m) more refl (move_token m) w) (FieldTakesValue.Current (reads-back m s)) k

moves_white : (moves : List Move) → BeginsWhite (each_move moves)
moves_white [] = tt
moves_white (m ∷ moves) = refl

run_again : (moves : List Move) → AllOfficers moves → IsRun (tokens (each_move moves)) moves []
run_again [] h = IsRun.Ends tt
run_again (m ∷ moves) h =
    subst (λ (ts : List (List ℕ)). IsRun ts (m ∷ moves) []) (sym (tokens_prefix (text_of_move m) (each_move moves) (move_token m) (moves_white moves)))
    (IsRun.Goes (reads-back m h.0) (run_again moves h.1))

pv_reported : (f h : AnyInfo) (moves : List Move) → f.pv ≡ [] → AllOfficers moves → record f { pv = moves } ≡ h → ReportsFacts f (tokens (pv_text moves)) h
pv_reported f h [] e s k = subst (λ (g : AnyInfo). ReportsFacts f [] g) (ap (λ (ms : List Move). record f { pv = ms }) (e) ∙ k) ReportsFacts.End
pv_reported f h (m ∷ moves) e s k =
    taken f (record f { pv = m ∷ moves }) h [] _ _ (tokens_prefix (codes "pv") (each_move (m ∷ moves)) refl refl)
    (FieldTakesValue.Pv (run_again (m ∷ moves) s)) (subst (λ (g : AnyInfo). ReportsFacts (record f { pv = m ∷ moves }) [] g) k ReportsFacts.End)

-- ALL

pv_white : (moves : List Move) → BeginsWhite (pv_text moves)
pv_white [] = tt
pv_white (m ∷ moves) = refl

move_white : (m : Option Move) (more : List ℕ) → BeginsWhite more → BeginsWhite (move_after_word (codes " currmove ") m ++ more)
move_white None more w = w
move_white (Some m) more w = refl

bound_white : (b : Bool) (more : List ℕ) → BeginsWhite more → BeginsWhite (bound_text b ++ more)
bound_white false more w = w
bound_white true more w = refl

score_white : (s : Option Score) (more : List ℕ) → BeginsWhite more → BeginsWhite (said_score_text s ++ more)
score_white None more w = w
score_white (Some (Cp n)) more w = refl
score_white (Some (Mate n)) more w = refl

number_white : (word : List ℕ) (n : Option ℕ) (more : List ℕ) → BeginsWhite more → BeginsWhite (optional_number (32 ∷ word) n ++ more)
number_white word None more w = w
number_white word (Some n) more w = refl

-- the fields behind `info`, one by one
unfoldable pub behind_counts : AnyInfo → List ℕ
behind_counts f = said_score_text f.score ++ (bound_text f.bound ++ (move_after_word (codes " currmove ") f.current ++ pv_text f.pv))

unfoldable pub behind_info : AnyInfo → List ℕ
behind_info f =
    optional_number (codes " depth ") f.depth ++ (optional_number (codes " time ") f.time ++ (optional_number (codes " nodes ") f.nodes
    ++ (optional_number (codes " multipv ") f.multipv ++ (optional_number (codes " currmovenumber ") f.number ++ behind_counts f))))

pub facts_text_is : (f : AnyInfo) → facts_text f ≡ codes "info" ++ behind_info f
unfolding facts_text behind_info behind_counts
facts_text_is f = simp append_assoc

counts_white : (f : AnyInfo) → BeginsWhite (behind_counts f)
unfolding behind_counts
counts_white f =
    let current = move_white f.current (pv_text f.pv) (pv_white f.pv) in
    score_white f.score _ (bound_white f.bound _ current)

info_white : (f : AnyInfo) → BeginsWhite (behind_info f)
unfolding behind_info
info_white f =
    number_white (codes "depth ") f.depth _ (number_white (codes "time ") f.time _ (number_white (codes "nodes ") f.nodes _
    (number_white (codes "multipv ") f.multipv _ (number_white (codes "currmovenumber ") f.number _ (counts_white f)))))

-- the five counts that are told first
counted : AnyInfo → AnyInfo
counted f = record no_facts { depth = f.depth; time = f.time; nodes = f.nodes; multipv = f.multipv; number = f.number }

rest_reported : (f : AnyInfo) → Fits f → ReportsFacts (counted f) (tokens (behind_counts f)) f
unfolding behind_counts counted
rest_reported f s =
    let current = move_white f.current (pv_text f.pv) (pv_white f.pv) in
    let bound = bound_white f.bound _ current in
    score_reported (counted f) f f.score _ refl s.score bound
    (bound_reported (record (counted f) { score = f.score }) f f.bound _ refl current
    (current_reported (record (counted f) { score = f.score; bound = f.bound }) f f.current _ refl s.current (pv_white f.pv)
    (pv_reported (record (counted f) { score = f.score; bound = f.bound; current = f.current }) f f.pv refl s.pv refl)))

reported : (f : AnyInfo) → Fits f → ReportsFacts no_facts (tokens (behind_info f)) f
unfolding behind_info counted
reported f s =
    let number = number_white (codes "currmovenumber ") f.number _ (counts_white f) in
    let multipv = number_white (codes "multipv ") f.multipv _ number in
    let nodes = number_white (codes "nodes ") f.nodes _ multipv in
    let time = number_white (codes "time ") f.time _ nodes in
    depth_reported no_facts f f.depth _ refl s.depth time
    (time_reported (record no_facts { depth = f.depth }) f f.time _ refl s.time nodes
    (nodes_reported (record no_facts { depth = f.depth; time = f.time }) f f.nodes _ refl s.nodes multipv
    (multipv_reported (record no_facts { depth = f.depth; time = f.time; nodes = f.nodes }) f f.multipv _ refl s.multipv number
    (number_reported (record no_facts { depth = f.depth; time = f.time; nodes = f.nodes; multipv = f.multipv }) f f.number _ refl s.number (counts_white f)
    (rest_reported f s)))))

info_by : (f : AnyInfo) → Fits f → HasForm (codes "info" ++ behind_info f) (Info f)
info_by f s = (behind_info f, begins_with (codes "info") (behind_info f) refl refl (info_white f), reported f s)

pub info_again : (line : List ℕ) (f : AnyInfo) → HasForm line (Info f) → HasForm (said_text (Info f)) (Info f)
unfolding said_text
info_again line f h = subst (λ (t : List ℕ). HasForm t (Info f)) (sym (facts_text_is f)) (info_by f (reports_fits no_facts (tokens h.0) f h.2 none_fits))
