-- The `position` line of a game leads to where it stands.
use Rattle.std.proofs.Common.{◌≡◌, ◌⊎◌, inl, inr, ℕ, ◌+◌, ◌^◌, ◌<◌, not, ltb, length, List, [], ◌∷◌, ◌++◌, map, drop, Bool, true, false, cond, Some, None, Ok, codes, decimal, refl, sym, ap, subst, ◌∙◌, arith, append_assoc, append-nil}
use Rattle.std.specs.List.{join_with_byte, list_all, AllByRecursion}
use Rattle.std.proofs.lemmas.Bool.Decides.{nat_tests}
use Rattle.std.proofs.lemmas.Bool.{and_parts}
use Rattle.protocol_tokens.specs.Tokens.{is_white, is_token, tokens}
use Rattle.protocol_tokens.proofs.TokenLists.{tokens_more, tokens_joined}
use Rattle.chess_board.specs.declared.board.Move.{Move}
use Rattle.chess_board.specs.declared.board.Variant.TheVariants.{Normal}
use Rattle.chess_board.specs.Position.{Position}
use Rattle.chess_board.specs.Play.{IsPosition, start_position}
use Rattle.chess_board.specs.Text.{text_of_move}
use Rattle.chess_board.proofs.Texts.{legal-written, reads-back}
use Rattle.fen_text.specs.Fen.{position_of, position_of_fields}
use Rattle.fen_text.specs.Written.{position_fen, fields_text, board_text, side_text, rights_text, en_passant_text, IsNormal}
use Rattle.fen_text.proofs.Cut.{Above, IsWord}
use Rattle.fen_text.proofs.Boards.{word-board}
use Rattle.fen_text.proofs.Others.{word-side, word-rights, word-passant, word-count}
use Rattle.fen_text.proofs.Back.{reads_back}
use Rattle.uci_lines.specs.Orders.{uci_position_text}
use Rattle.uci_lines.proofs.MoveTokens.{move_token}
use Rattle.game_record.specs.Game.{Game, ply_of, plies_of, AreLegal, position_after_ply, now_after, current_position}
use Rattle.game_record.specs.Line.{ply_text, is_standard}
use Rattle.game_record.proofs.Lines.{standard-law}
use Rattle.uci_interface_lines.specs.Lines.{Line, position_line_in}
use Rattle.uci_interface_lines.specs.Speaks.{Leads, Starts}
use Rattle.uci_interface_lines.proofs.Saying.{speaks_line}
use Rattle.desk_rules.specs.Orders.{start_of}
use Rattle.trace_laws.proofs.Games.{IsGame}

-- THE LINE

word_black : (w : List ℕ) → Above 32 w → list_all (λ b. not (is_white b)) w ≡ true
word_black [] a = refl
word_black (c ∷ cs) a = let h : 32 < c = a.0 in let b : not (is_white c) ≡ true = grind (arith, nat_tests) in rw (b, word_black cs a.1) refl

word_token : (w : List ℕ) → IsWord w → is_token w ≡ true
word_token w a = let s : 0 < length w = a.0 in let t : ltb 0 (length w) ≡ true = grind (arith, nat_tests) in rw (t, word_black w a.1) refl

words_tokens : (ws : List (List ℕ)) → AllByRecursion IsWord ws → list_all is_token ws ≡ true
words_tokens [] a = refl
words_tokens (w ∷ ws) a = rw (word_token w a.0, words_tokens ws a.1) refl

-- tokens with one blank between, and more after a blank
joined_more : (t : List ℕ) (ts : List (List ℕ)) (more : List ℕ) → list_all is_token (t ∷ ts) ≡ true → tokens (join_with_byte 32 (t ∷ ts) ++ (32 ∷ more)) ≡ (t ∷ ts) ++ tokens more
joined_more t [] more h = tokens_more t more 32 (and_parts (is_token t) true h).0 refl
joined_more t (u ∷ ts) more h =
    let both = and_parts (is_token t) (list_all is_token (u ∷ ts)) h in
    ap tokens (append_assoc t (32 ∷ join_with_byte 32 (u ∷ ts)) (32 ∷ more))
    ∙ tokens_more t (join_with_byte 32 (u ∷ ts) ++ (32 ∷ more)) 32 both.0 refl
    ∙ ap (λ us. t ∷ us) (joined_more u ts more both.1)

field_words : (p : Position) → IsPosition p → AllByRecursion IsWord (fields_text p)
field_words p q =
    let half : p.half < 2 ^ 64 = let h = q.half in omega arith in
    let full : p.full < 2 ^ 64 = let f = q.full in omega arith in
    (word-board p.pieces, (word-side p.side, (word-rights p.rights, (word-passant p.passant, (word-count p.half half, (word-count p.full full, tt))))))

fields_read : (p : Position) → IsNormal p → position_of_fields (fields_text p) ≡ Ok p
unfolding position_fen position_of
fields_read p q = ap position_of_fields (sym (tokens_joined (fields_text p) (words_tokens (fields_text p) (field_words p q.0)))) ∙ reads_back p q

-- the texts of moves
abbrev texts_of : List Move → List (List ℕ)
texts_of ms = map text_of_move ms

texts_are : (ms : List Move) → map ply_text (plies_of ms) ≡ texts_of ms
texts_are [] = refl
texts_are (m ∷ ms) = ap (λ ts. text_of_move m ∷ ts) (texts_are ms)

leads : (p : Position) (ms : List Move) → AreLegal p (plies_of ms) → Leads p (texts_of ms) (now_after p (plies_of ms))
leads p [] l = Leads.Stays
leads p (m ∷ ms) l = Leads.Goes m (reads-back m (legal-written p m l.0)) l.0 (leads (position_after_ply p (ply_of m)) ms l.1)

texts_tokens : (ms : List Move) → list_all is_token (texts_of ms) ≡ true
texts_tokens [] = refl
texts_tokens (m ∷ ms) = rw (move_token m, texts_tokens ms) refl

-- the text behind `position`
abbrev behind : List (List ℕ) → List (List ℕ) → List (List ℕ)
behind first [] = first
behind first (t ∷ ts) = first ++ (codes "moves" ∷ t ∷ ts)

abbrev joined_moves : List (List ℕ) → List ℕ
joined_moves ts = join_with_byte 32 ts

standard_tokens : (ts : List (List ℕ)) → list_all is_token ts ≡ true → drop 1 (tokens (uci_position_text None (joined_moves ts))) ≡ behind (codes "startpos" ∷ []) ts
standard_tokens [] h = refl
standard_tokens (t ∷ ts) h = some_moves (joined_moves (t ∷ ts)) refl where
  some_moves : (text : List ℕ) → joined_moves (t ∷ ts) ≡ text → drop 1 (tokens (uci_position_text None text)) ≡ behind (codes "startpos" ∷ []) (t ∷ ts)
  some_moves [] e = let none = ap tokens (sym e) ∙ tokens_joined (t ∷ ts) h in absurd (cc)
  some_moves (b ∷ bs) e = ap (λ us. codes "startpos" ∷ codes "moves" ∷ us) (ap tokens (sym e) ∙ tokens_joined (t ∷ ts) h)

set_up_tokens : (p : Position) → IsPosition p → (ts : List (List ℕ)) → list_all is_token ts ≡ true → drop 1 (tokens (uci_position_text (Some (position_fen p)) (joined_moves ts))) ≡ behind (codes "fen" ∷ fields_text p) ts
unfolding position_fen
set_up_tokens p q [] h =
    ap (λ us. codes "fen" ∷ us) (ap tokens (append-nil (join_with_byte 32 (fields_text p))) ∙ tokens_joined (fields_text p) (words_tokens (fields_text p) (field_words p q)))
set_up_tokens p q (t ∷ ts) h = some_moves (joined_moves (t ∷ ts)) refl where
  some_moves : (text : List ℕ) → joined_moves (t ∷ ts) ≡ text → drop 1 (tokens (uci_position_text (Some (join_with_byte 32 (fields_text p))) text)) ≡ behind (codes "fen" ∷ fields_text p) (t ∷ ts)
  some_moves [] e = let none = ap tokens (sym e) ∙ tokens_joined (t ∷ ts) h in absurd (cc)
  some_moves (b ∷ bs) e =
      let others : tokens (b ∷ bs) ≡ t ∷ ts = ap tokens (sym e) ∙ tokens_joined (t ∷ ts) h in
      ap (λ us. codes "fen" ∷ us) (joined_more (board_text p.pieces) (side_text p.side ∷ rights_text p.rights ∷ en_passant_text p.passant ∷ decimal p.half ∷ decimal p.full ∷ []) (codes "moves " ++ b ∷ bs) (words_tokens (fields_text p) (field_words p q)))
      ∙ ap (λ us. (codes "fen" ∷ fields_text p) ++ (codes "moves" ∷ us)) others

whole : (first ts : List (List ℕ)) → (behind first ts ≡ first ++ (codes "moves" ∷ ts)) ⊎ ((behind first ts ≡ first) × (ts ≡ []))
whole first [] = inr (refl, refl)
whole first (t ∷ ts) = inl refl

-- the meaning of the line of a game
abbrev said : Position → List Move → Line
said p ms = record { start = p; moves = texts_of ms; end = now_after p (plies_of ms) }

says_so : (p : Position) (ms : List Move) (first : List (List ℕ)) (line : List ℕ) → Starts Normal first p → AreLegal p (plies_of ms) → drop 1 (tokens line) ≡ behind first (texts_of ms) → position_line_in line ≡ Some (said p ms)
unfolding position_line_in
says_so p ms first line s l e =
    speaks_line Normal (drop 1 (tokens line)) (said p ms) (record {
      first = first;
      starts = s;
      leads = leads p ms l;
      whole = subst (λ us. (us ≡ first ++ (codes "moves" ∷ texts_of ms)) ⊎ ((us ≡ first) × (texts_of ms ≡ []))) (sym e) (whole first (texts_of ms));
    })

by_start : (b : Bool) (p : Position) (ms : List Move) → is_standard p ≡ b → IsNormal p → AreLegal p (plies_of ms) → position_line_in (uci_position_text (cond b None (Some (position_fen p))) (joined_moves (texts_of ms))) ≡ Some (said p ms)
by_start true p ms e q l =
    let same : p ≡ start_position = (standard-law p).0 e in
    says_so p ms (codes "startpos" ∷ []) _ (subst (λ x. Starts Normal (codes "startpos" ∷ []) x) (sym same) Starts.Standard) l (standard_tokens (texts_of ms) (texts_tokens ms))
by_start false p ms e q l = says_so p ms (codes "fen" ∷ fields_text p) _ (Starts.SetUp (fields_read p q)) l (set_up_tokens p q.0 (texts_of ms) (texts_tokens ms))

-- the line of a game leads to where it stands
pub line_leads : (g : Game) → IsGame g → (said : Line) × (position_line_in (uci_position_text (start_of g.start) (join_with_byte 32 (map ply_text g.moves))) ≡ Some said) × (said.end ≡ current_position g)
line_leads g i =
    let l = subst (AreLegal g.start) i.moves_are i.legal in (
      said g.start i.moves,
      ap (λ ts. position_line_in (uci_position_text (start_of g.start) (join_with_byte 32 ts))) (ap (map ply_text) i.moves_are ∙ texts_are i.moves) ∙ by_start (is_standard g.start) g.start i.moves refl i.start l,
      ap (now_after g.start) (sym i.moves_are),
    )
