use Rattle.std.proofs.Common.{◌≡◌, ◌&&◌, ◌∙◌, Bool, true, false, List, ℕ, Some, take, drop, sym, ap, refl, arith, ◌+◌}
use Rattle.std.proofs.lemmas.List.{take_rest}
use Rattle.std.specs.List.{before_first}
use Rattle.std.specs.Option.{option_map}
use Rattle.std.specs.Str.{bytes_eq}
use Rattle.protocol_tokens.specs.Tokens.{is_white, token_end}
use Rattle.uci_lines.specs.Cuts.{found_token}
use Rattle.uci_lines.proofs.Cutting.{shifted, passed, found}
use Rattle.uci_interface_lines.specs.Lines.{is_moves_token, sides}
use Rattle.uci_interface_lines.proofs.words.find_moves.Goals as goal
use Rattle.uci_interface_lines.proofs.words.find_moves.Goals.{then-is_fresh+else-eq, else-is_fresh}

pub loop-i-preserved : goal.loop-i-preserved
loop-i-preserved c =
    let text = c.args.text.now in
    let i = c.loop-i.i in
    let next = ap (λ (f : Bool). shifted (take (i + 1) text) (found_token is_moves_token f (drop (i + 1) text))) (sym c.is_white-is_fresh.ensures) in
    elim c.if-is_fresh.branch [
      | then-is_fresh+else-eq w ↦
          let word : w.split_at_white.result.0.now ≡ before_first is_white (drop i text) = w.split_at_white.ensures.token ∙ ap (before_first is_white) (take_rest text i) in
          let differs : is_moves_token (before_first is_white (drop i text)) ≡ false =
          ap is_moves_token (sym word) ∙ sym (w.eq.ensures ∙ ap (bytes_eq w.split_at_white.result.0.now) w.as_slice.ensures) ∙ w.if-eq.false in
          let no : (c.loop-i.is_fresh && is_moves_token (before_first is_white (drop i text))) ≡ false = rw w.if-is_fresh.true differs in
          passed is_moves_token text i c.loop-i.is_fresh _ (omega arith) no c.loop-i.invariant ∙ next
      | else-is_fresh w ↦
          let no : (c.loop-i.is_fresh && is_moves_token (before_first is_white (drop i text))) ≡ false = rw w.if-is_fresh.false refl in
          passed is_moves_token text i c.loop-i.is_fresh _ (omega arith) no c.loop-i.invariant ∙ next
    ]

pub returns-then-eq : goal.returns-then-eq
returns-then-eq c =
    let text = c.args.text.now in
    let i = c.loop-i.i in
    let part = take_rest text i in
    let word : c.split_at_white.result.0.now ≡ before_first is_white (drop i text) = c.split_at_white.ensures.token ∙ ap (before_first is_white) part in
    let after : c.split_at_white.result.1.now ≡ drop (token_end (drop i text)) (drop i text) = c.split_at_white.ensures.rest ∙ ap (λ (t : List ℕ). drop (token_end t) t) part in
    let passes : is_moves_token (before_first is_white (drop i text)) ≡ true =
    ap is_moves_token (sym word) ∙ sym (c.eq.ensures ∙ ap (bytes_eq c.split_at_white.result.0.now) c.as_slice.ensures) ∙ c.if-eq.true in
    let fresh = ap (λ (f : Bool). shifted (take i text) (found_token is_moves_token f (drop i text))) c.if-is_fresh.true in
    let e = found is_moves_token text i _ (omega arith) passes (c.loop-i.invariant ∙ fresh) in
    sym (ap (option_map sides) e ∙ ap (λ (t : List ℕ). Some (take i text, t)) (sym after))
