-- The meaning of the texts of orders and of replies to a judge.
use Rattle.std.proofs.Common.{◌≡◌, ℕ, List, [], ◌∷◌, ◌++◌, length, Bool, true, false, not, ◌||◌, cond, ◌==◌, ltb, Option, Some, None, decimal, codes, refl, sym, ap, ◌∙◌, arith, append_assoc, append-nil}
use Rattle.std.specs.List.{list_all}
use Rattle.std.specs.Char.{is_ascii_digit}
use Rattle.std.specs.Fmt.{signed_decimal}
use Rattle.std.proofs.lemmas.Bool.Decides.{nat_tests}
use Rattle.std.proofs.lemmas.Bool.{and_parts}
use Rattle.protocol_tokens.specs.declared.kinds.GoKind.TheVariants as kinds
use Rattle.protocol_tokens.specs.Tokens.{is_white, is_token, tokens}
use Rattle.protocol_tokens.proofs.TokenLists.{tokens_more, tokens_alone, tokens_white}
use Rattle.protocol_tokens.proofs.Written.{not_white}
use Rattle.chess_board.specs.declared.board.Side.TheVariants.{White, Black}
use Rattle.cecp_lines.specs.Replies.{Reply, reply_text, hint_in_parentheses}
use Rattle.cecp_lines.specs.Replies as cecp
use Rattle.cecp_lines.specs.declared.reply.UserError.TheVariants as user_errors
use Rattle.cecp_lines.specs.declared.reply.Outcome.TheVariants as outcomes
use Rattle.uci_lines.specs.declared.orders.GoControl.{GoControl}
use Rattle.uci_lines.specs.declared.orders.GoControl.TheVariants.{Infinite, MoveTime, Clock}
use Rattle.uci_lines.specs.Behind.{after}
use Rattle.uci_lines.specs.Cuts.{is_word}
use Rattle.uci_lines.specs.Orders.{Order, uci_order_text, uci_position_text, go_text, control_text, optional_number}
use Rattle.uci_lines.specs.Orders as orders
use Rattle.uci_lines.proofs.Counts.{same_text}
use Rattle.uci_interface_lines.specs.Kinds.{has_token_word, kind_asked}
use Rattle.uci_interface_lines.specs.Lines.{position_line_in}
use Rattle.desk_rules.specs.Orders.{go_kind_named}
use Rattle.session_judge.specs.declared.dialogue_event.OrderKind.{OrderKind as Heard}
use Rattle.session_judge.specs.declared.dialogue_event.OrderKind.TheVariants as hears
use Rattle.session_judge.specs.declared.dialogue_event.DialogueEvent.TheVariants as dialogue_events
use Rattle.session_judge.specs.DialogueEvents.{dialogue_event_of, end_of, move_in_line, move_shown_by_line}
use Rattle.trace_laws.proofs.Numerals.{AreDigits, numeral}
use Rattle.judge_and_driver_laws.specs.Judge.Logs.{iface_mark, engine_mark}

-- ORDERS

-- an order as its text is heard
abbrev pub as_order : Order → Heard
as_order orders.Uci = hears.Uci
as_order orders.IsReady = hears.IsReady
as_order orders.NewGame = hears.Setup
as_order orders.Stop = hears.Stop
as_order orders.PonderHit = hears.PonderHit
as_order orders.Quit = hears.Quit
as_order (orders.SetOption name value) = hears.Setup
as_order (orders.Position fen moves) = hears.Position (end_of (position_line_in (uci_position_text fen moves)))
as_order (orders.Go ponder control depth) = hears.Go (kind_asked (go_text ponder control depth))

start_action : (fen : Option (List ℕ)) (moves : List ℕ) → dialogue_event_of (engine_mark (orders.Position fen moves)) ≡ dialogue_events.Writes (as_order (orders.Position fen moves))
unfolding uci_order_text
start_action None moves = refl
start_action (Some fen) moves = refl

go_action : (ponder : Bool) (control : GoControl) (depth : Option ℕ) → dialogue_event_of (engine_mark (orders.Go ponder control depth)) ≡ dialogue_events.Writes (as_order (orders.Go ponder control depth))
unfolding uci_order_text
go_action true control depth = refl
go_action false Infinite depth = refl
go_action false (MoveTime time) depth = refl
go_action false (Clock w b i j m) depth = refl

pub order_action : (o : Order) → dialogue_event_of (engine_mark o) ≡ dialogue_events.Writes (as_order o)
unfolding uci_order_text
order_action (orders.Position fen moves) = start_action fen moves
order_action (orders.Go ponder control depth) = go_action ponder control depth
order_action o = refl

-- NUMBERS

digits_black : (ds : List ℕ) → list_all is_ascii_digit ds ≡ true → list_all (λ b. not (is_white b)) ds ≡ true
digits_black [] h = refl
digits_black (c ∷ cs) h = let both = and_parts (is_ascii_digit c) (list_all is_ascii_digit cs) h in rw (not_white c both.0, digits_black cs both.1) refl

number_token : (ds : List ℕ) → AreDigits ds → is_token ds ≡ true
number_token ds a = let t : ltb 0 (length ds) ≡ true = let s = a.some in grind (arith, nat_tests) in rw (t, digits_black ds a.all) refl

no_digits : (word ds : List ℕ) (b : Bool) → AreDigits ds → list_all is_ascii_digit word ≡ false → is_word word ds ≡ b → b ≡ false
no_digits word ds false a n e = refl
no_digits word ds true a n e = let same : ds ≡ word = same_text ds word e in let x : list_all is_ascii_digit word ≡ true = ap (list_all is_ascii_digit) (sym same) ∙ a.all in cc

-- THE KIND OF A SEARCH

abbrev ponders : List ℕ → Bool
ponders text = has_token_word (codes "ponder") (tokens text)

abbrev goes_on : List ℕ → Bool
goes_on text = has_token_word (codes "infinite") (tokens text)

-- nothing, or a text that begins with white space
abbrev BeginsWhite : List ℕ → Type 0
BeginsWhite [] = Unit {0}
BeginsWhite (b ∷ bs) = is_white b ≡ true

number_first : (ds more : List ℕ) → AreDigits ds → BeginsWhite more → tokens (ds ++ more) ≡ ds ∷ tokens more
number_first ds [] a w = ap tokens (append-nil ds) ∙ tokens_alone ds (number_token ds a)
number_first ds (b ∷ bs) a w = tokens_more ds bs b (number_token ds a) w ∙ ap (λ ts. ds ∷ ts) (sym (tokens_white b bs w))

-- a number is neither word
number_quiet : (word : List ℕ) (n : ℕ) (more : List ℕ) → list_all is_ascii_digit word ≡ false → BeginsWhite more → has_token_word word (tokens (decimal n ++ more)) ≡ has_token_word word (tokens more)
number_quiet word n more d w =
    let a = numeral n in
    ap (has_token_word word) (number_first (decimal n) more a w) ∙ ap (λ b. b || has_token_word word (tokens more)) (no_digits word (decimal n) (is_word word (decimal n)) a d refl)

depth_white : (depth : Option ℕ) → BeginsWhite (optional_number (codes " depth ") depth)
depth_white None = tt
depth_white (Some n) = refl

-- a word that no part of a `go` is, but for the words of kinds
record IsApart (word : List ℕ) : Type 0 where
  letters : list_all is_ascii_digit word ≡ false
  depth : is_word word (codes "depth") ≡ false
  movestogo : is_word word (codes "movestogo") ≡ false
  movetime : is_word word (codes "movetime") ≡ false
  wtime : is_word word (codes "wtime") ≡ false
  btime : is_word word (codes "btime") ≡ false
  winc : is_word word (codes "winc") ≡ false
  binc : is_word word (codes "binc") ≡ false

depth_quiet : (word : List ℕ) (depth : Option ℕ) → IsApart word → has_token_word word (tokens (optional_number (codes " depth ") depth)) ≡ false
depth_quiet word None a = refl
depth_quiet word (Some n) a =
    ap (λ b. b || has_token_word word (tokens (decimal n))) a.depth
    ∙ ap (λ t. has_token_word word (tokens t)) (sym (append-nil (decimal n)))
    ∙ number_quiet word n [] a.letters tt

togo_white : (m depth : Option ℕ) → BeginsWhite (optional_number (codes " movestogo ") m ++ optional_number (codes " depth ") depth)
togo_white None depth = depth_white depth
togo_white (Some n) depth = refl

togo_quiet : (word : List ℕ) (m depth : Option ℕ) → IsApart word → has_token_word word (tokens (optional_number (codes " movestogo ") m ++ optional_number (codes " depth ") depth)) ≡ false
togo_quiet word None depth a = depth_quiet word depth a
togo_quiet word (Some n) depth a =
    ap (λ b. b || has_token_word word (tokens (decimal n ++ optional_number (codes " depth ") depth))) a.movestogo
    ∙ number_quiet word n (optional_number (codes " depth ") depth) a.letters (depth_white depth) ∙ depth_quiet word depth a

clock_quiet : (word : List ℕ) (w b i j : ℕ) (m depth : Option ℕ) → IsApart word → has_token_word word (tokens (control_text (Clock w b i j m) ++ optional_number (codes " depth ") depth)) ≡ false
clock_quiet word w b i j m depth a =
    let end = optional_number (codes " movestogo ") m ++ optional_number (codes " depth ") depth in
    let four = codes " binc " ++ (decimal j ++ end) in
    let three = codes " winc " ++ (decimal i ++ four) in
    let two = codes " btime " ++ (decimal b ++ three) in
    let all = codes " wtime " ++ (decimal w ++ two) in
    let whole : control_text (Clock w b i j m) ++ optional_number (codes " depth ") depth ≡ all = simp append_assoc in
    ap (λ t. has_token_word word (tokens t)) whole
    ∙ ap (λ x. x || has_token_word word (tokens (decimal w ++ two))) a.wtime ∙ number_quiet word w two a.letters refl
    ∙ ap (λ x. x || has_token_word word (tokens (decimal b ++ three))) a.btime ∙ number_quiet word b three a.letters refl
    ∙ ap (λ x. x || has_token_word word (tokens (decimal i ++ four))) a.winc ∙ number_quiet word i four a.letters refl
    ∙ ap (λ x. x || has_token_word word (tokens (decimal j ++ end))) a.binc ∙ number_quiet word j end a.letters (togo_white m depth)
    ∙ togo_quiet word m depth a

time_quiet : (word : List ℕ) (time : ℕ) (depth : Option ℕ) → IsApart word → has_token_word word (tokens (control_text (MoveTime time) ++ optional_number (codes " depth ") depth)) ≡ false
time_quiet word time depth a =
    ap (λ t. has_token_word word (tokens t)) (append_assoc (codes " movetime ") (decimal time) (optional_number (codes " depth ") depth))
    ∙ ap (λ x. x || has_token_word word (tokens (decimal time ++ optional_number (codes " depth ") depth))) a.movetime
    ∙ number_quiet word time (optional_number (codes " depth ") depth) a.letters (depth_white depth) ∙ depth_quiet word depth a

ponder_apart : IsApart (codes "ponder")
ponder_apart = record { letters = refl; depth = refl; movestogo = refl; movetime = refl; wtime = refl; btime = refl; winc = refl; binc = refl }

infinite_apart : IsApart (codes "infinite")
infinite_apart = record { letters = refl; depth = refl; movestogo = refl; movetime = refl; wtime = refl; btime = refl; winc = refl; binc = refl }

asked_by : (p i : Bool) → p ≡ false → i ≡ false → cond p kinds.Ponder (cond i kinds.Analyse kinds.Move) ≡ kinds.Move
asked_by p i e f = rw (e, f) refl

asked_without : (p : Bool) → p ≡ false → cond p kinds.Ponder kinds.Analyse ≡ kinds.Analyse
asked_without p e = rw e refl

-- the kind of a search that is written is heard
pub kind_heard : (ponder : Bool) (control : GoControl) (depth : Option ℕ) → kind_asked (go_text ponder control depth) ≡ go_kind_named ponder control
kind_heard true Infinite depth = refl
kind_heard true (MoveTime time) depth = refl
kind_heard true (Clock w b i j m) depth = refl
kind_heard false Infinite None = refl
kind_heard false Infinite (Some n) = asked_without _ (depth_quiet (codes "ponder") (Some n) ponder_apart)
kind_heard false (MoveTime time) depth = asked_by _ _ (time_quiet (codes "ponder") time depth ponder_apart) (time_quiet (codes "infinite") time depth infinite_apart)
kind_heard false (Clock w b i j m) depth = asked_by _ _ (clock_quiet (codes "ponder") w b i j m depth ponder_apart) (clock_quiet (codes "infinite") w b i j m depth infinite_apart)

-- REPLIES

-- a reply that shows no move
abbrev pub shows_none : Reply → Bool
shows_none (cecp.Move m) = false
shows_none r = true

digit_other : (c : ℕ) → is_ascii_digit c ≡ true → (c == 109) ≡ false
digit_other c h = grind (arith, nat_tests)

digits_other : (ds more : List ℕ) → AreDigits ds → move_in_line (after (codes "move ") (ds ++ more)) ≡ dialogue_events.Nothing
digits_other [] more a = absurd (let s = a.some in omega arith)
digits_other (c ∷ cs) more a = rw (digit_other c (and_parts (is_ascii_digit c) (list_all is_ascii_digit cs) a.all).0) refl

thinking_quiet : (depth : ℕ) (text others : List ℕ) → text ≡ decimal depth ++ (32 ∷ others) → move_shown_by_line text ≡ dialogue_events.Nothing
thinking_quiet depth text others e = ap move_shown_by_line e ∙ digits_other (decimal depth) (32 ∷ others) (numeral depth)

pub reply_action : (r : Reply) → shows_none r ≡ true → dialogue_event_of (iface_mark r) ≡ dialogue_events.Nothing
reply_action (cecp.Move m) h = absurd (cc)
reply_action (cecp.Thinking depth score time nodes spelling hint pv) h =
    let others = signed_decimal score ++ (32 ∷ (decimal time ++ (32 ∷ (decimal nodes ++ (32 ∷ (hint_in_parentheses hint ++ pv)))))) in
    let whole : reply_text (cecp.Thinking depth score time nodes spelling hint pv) ≡ decimal depth ++ (32 ∷ others) = simp append_assoc in
    thinking_quiet depth (reply_text (cecp.Thinking depth score time nodes spelling hint pv)) others whole
reply_action (cecp.TellError user_errors.Position) h = refl
reply_action (cecp.Result outcomes.WhiteMates) h = refl
reply_action (cecp.Lost White loss) h = refl
reply_action (cecp.Lost Black loss) h = refl
reply_action r h = refl
