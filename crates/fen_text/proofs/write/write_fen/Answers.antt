-- The fields with a blank between.
use Rattle.std.proofs.Common.{◌≡◌, List, ℕ, Option, decimal, ◌++◌, ◌∷◌, [], ap, subst, sym, ◌∙◌, append_assoc}
use Rattle.chess_board.specs.declared.board.Rights.{Rights}
use Rattle.fen_text.specs.Fen.{position_of, position_by}
use Rattle.fen_text.specs.Written.{position_fen, side_text, rights_text, en_passant_text, AreFiles}
use Rattle.fen_text.proofs.Back.{reads_back, reads_back_by}
use Rattle.fen_text.proofs.Others.{are_files}
use Rattle.fen_text.proofs.write.write_fen.Goals as goal

assembled : (b s r q h f t0 t1 t2 t3 t4 t5 t6 t7 t8 t9 t10 t11 : List ℕ) → t0 ≡ [] → t1 ≡ t0 ++ b → t2 ≡ t1 ++ 32 ∷ [] → t3 ≡ t2 ++ s → t4 ≡ t3 ++ 32 ∷ [] → t5 ≡ t4 ++ r → t6 ≡ t5 ++ 32 ∷ [] → t7 ≡ t6 ++ q → t8 ≡ t7 ++ 32 ∷ [] → t9 ≡ t8 ++ h → t10 ≡ t9 ++ 32 ∷ [] → t11 ≡ t10 ++ f →
    t11 ≡ b ++ (32 ∷ (s ++ (32 ∷ (r ++ (32 ∷ (q ++ (32 ∷ (h ++ (32 ∷ f)))))))))
assembled b s r q h f t0 t1 t2 t3 t4 t5 t6 t7 t8 t9 t10 t11 e0 e1 e2 e3 e4 e5 e6 e7 e8 e9 e10 e11 =
    rw (e11, e10, e9, e8, e7, e6, e5, e4, e3, e2, e1, e0) (simp append_assoc)

pub returns-clause-text : goal.returns-clause-text
unfolding position_fen
returns-clause-text c =
    assembled _ _ _ _ _ _ _ _ _ _ _ _ _ _ _ _ _ _ c.new-text.ensures c.write_board.ensures.text c.push.ensures.items
    (c.push-2.ensures.items ∙ ap (λ (s : List ℕ). c.push.new.self.items ++ s) (c.side_letter.ensures ∙ ap side_text c.side.ensures)) c.push-3.ensures.items
    (c.write_rights.ensures.text ∙ ap (λ (r : Rights). c.push-3.new.self.items ++ rights_text r) c.rights.ensures) c.push-4.ensures.items
    (c.write_en_passant.ensures.text ∙ ap (λ (q : Option ℕ). c.push-4.new.self.items ++ en_passant_text q) c.passant.ensures) c.push-5.ensures.items
    (c.write_count.ensures.text ∙ ap (λ n. c.push-5.new.self.items ++ decimal n) c.half.ensures) c.push-6.ensures.items
    (c.write_count-2.ensures.text ∙ ap (λ n. c.push-6.new.self.items ++ decimal n) c.full.ensures)

pub returns-clause-read_back : goal.returns-clause-read_back
returns-clause-read_back c normal = ap position_of (returns-clause-text c) ∙ reads_back c.args.p.now (c.facts.ensures.position, normal)

pub returns-clause-read_back_by : goal.returns-clause-read_back_by
returns-clause-read_back_by c = ap (position_by c.args.p.now.rights.variant) (returns-clause-text c) ∙ reads_back_by c.args.p.now c.facts.ensures.position

pub write_rights-requires-clause-files : goal.write_rights-requires-clause-files
write_rights-requires-clause-files c = subst AreFiles (sym c.rights.ensures) (are_files c.args.p.now c.facts.ensures.lawful)
