-- The meaning of `==` on sides, kinds, pieces, moves and positions: exactly that they are the same.
use Rattle.std.proofs.Common.{◌≡◌, Bool, ◌&&◌, Option, Some, None, refl, sym, ap, eqb, length, ◌∙◌, ℕ}
use Rattle.std.specs.Bool.{Decides}
use Rattle.std.specs.Option.{option_eq}
use Rattle.std.proofs.lemmas.Bool.Decides.{Decides-and, Decides-eqb}
use Rattle.chess_board.specs.declared.board.Side.{Side}
use Rattle.chess_board.specs.declared.board.Side.TheVariants.{White, Black}
use Rattle.chess_board.specs.declared.board.Kind.{Kind}
use Rattle.chess_board.specs.declared.board.Kind.TheVariants.{Pawn, Knight, Bishop, Rook, Queen, King}
use Rattle.chess_board.specs.declared.board.Move.{Move}
use Rattle.chess_board.specs.contracts.board.SidePartialEq.TheImpl as sides
use Rattle.chess_board.specs.contracts.board.KindPartialEq.TheImpl as kinds
use Rattle.chess_board.specs.contracts.board.VariantPartialEq.TheImpl as variants
use Rattle.chess_board.specs.declared.board.Variant.{Variant}
use Rattle.chess_board.specs.declared.board.Variant.TheVariants.{Normal, Fischer}
use Rattle.chess_board.specs.declared.board.Rights.{Rights}
use Rattle.chess_board.specs.Board.{Occupant, Pieces}
use Rattle.chess_board.specs.Position.{Position}
use Rattle.chess_board.specs.declared.pieces.Board.TheInside.{Inside}
use Rattle.chess_board.specs.Sets.{pieces_by_sets, sets_of}
use Rattle.chess_board.proofs.Sets.{men_of-sets_of}
use Rattle.chess_board.proofs.Places.{move_same}

-- `==` of two sides, kinds, pieces and moves
abbrev pub side_test : Side → Side → Bool
side_test = (sides.eq-value).it

abbrev pub kind_test : Kind → Kind → Bool
kind_test = (kinds.eq-value).it

abbrev pub piece_test : Occupant → Occupant → Bool
piece_test = option_eq (λ x y. side_test x.0 y.0 && kind_test x.1 y.1)

abbrev pub move_test : Move → Move → Bool
move_test a b = eqb a.from.index b.from.index && (eqb a.to.index b.to.index && option_eq kind_test a.promotion b.promotion)

pub sides-Decides : (a b : Side) → Decides (side_test a b) (a ≡ b)
sides-Decides White White = (λ _. refl, λ _. refl)
sides-Decides Black Black = (λ _. refl, λ _. refl)
sides-Decides White Black = (λ e. absurd (cc), λ e. absurd (cc))
sides-Decides Black White = (λ e. absurd (cc), λ e. absurd (cc))

pub kinds-Decides : (j k : Kind) → Decides (kind_test j k) (j ≡ k)
kinds-Decides Pawn Pawn = (λ _. refl, λ _. refl)
kinds-Decides Knight Knight = (λ _. refl, λ _. refl)
kinds-Decides Bishop Bishop = (λ _. refl, λ _. refl)
kinds-Decides Rook Rook = (λ _. refl, λ _. refl)
kinds-Decides Queen Queen = (λ _. refl, λ _. refl)
kinds-Decides King King = (λ _. refl, λ _. refl)
kinds-Decides j k = (λ e. absurd (cc), λ e. absurd (cc))

-- `==` of two options
pub option-Decides : {X : Type 0} (test : X → X → Bool) → ((x y : X) → Decides (test x y) (x ≡ y)) → (a b : Option X) → Decides (option_eq test a b) (a ≡ b)
option-Decides test law None None = (λ _. refl, λ _. refl)
option-Decides test law None (Some y) = (λ e. absurd (cc), λ e. absurd (cc))
option-Decides test law (Some x) None = (λ e. absurd (cc), λ e. absurd (cc))
option-Decides {X = X} test law (Some x) (Some y) = (λ e. ap Some ((law x y).0 e), λ e. let same : x ≡ y = cc in (law x y).1 same)

pub pieces-Decides : (a b : Occupant) → Decides (piece_test a b) (a ≡ b)
pieces-Decides = option-Decides (λ x y. side_test x.0 y.0 && kind_test x.1 y.1) pair
  where
    pair : (x y : Side × Kind) → Decides (side_test x.0 y.0 && kind_test x.1 y.1) (x ≡ y)
    pair (s, j) (t, k) =
        let law = Decides-and (side_test s t) (kind_test j k) (sides-Decides s t) (kinds-Decides j k) in
        (λ e. let same = law.0 e in let one = same.0 in let two = same.1 in cc, λ e. law.1 (ap (λ (x : Side × Kind). x.0) e, ap (λ (x : Side × Kind). x.1) e))

pub moves-Decides : (a b : Move) → Decides (move_test a b) (a ≡ b)
moves-Decides a b =
    let promotion = option-Decides kind_test kinds-Decides a.promotion b.promotion in
    let law = Decides-and (eqb a.from.index b.from.index) (eqb a.to.index b.to.index && option_eq kind_test a.promotion b.promotion) (Decides-eqb a.from.index b.from.index)
    (Decides-and (eqb a.to.index b.to.index) (option_eq kind_test a.promotion b.promotion) (Decides-eqb a.to.index b.to.index) promotion) in
    (λ e. let same = law.0 e in move_same a b same.0 same.1.0 same.1.1, λ e. law.1 (ap (λ (m : Move). m.from.index) e, (ap (λ (m : Move). m.to.index) e, ap (λ (m : Move). m.promotion) e)))

-- `==` of two variants
abbrev pub variant_test : Variant → Variant → Bool
variant_test = (variants.eq-value).it

pub variants-Decides : (a b : Variant) → Decides (variant_test a b) (a ≡ b)
variants-Decides Normal Normal = (λ _. refl, λ _. refl)
variants-Decides Fischer Fischer = (λ _. refl, λ _. refl)
variants-Decides Normal Fischer = (λ e. absurd (cc), λ e. absurd (cc))
variants-Decides Fischer Normal = (λ e. absurd (cc), λ e. absurd (cc))

-- `==` of rights and of positions
abbrev pub rights_test : Rights → Rights → Bool
rights_test a b = variant_test a.variant b.variant && (option_eq eqb a.wk b.wk && (option_eq eqb a.wq b.wq && (option_eq eqb a.bk b.bk && option_eq eqb a.bq b.bq)))

abbrev pub sets_test : Inside → Inside → Bool
sets_test a b =
    eqb a.white b.white && (eqb a.black b.black && (eqb a.pawns b.pawns && (eqb a.knights b.knights && (eqb a.bishops b.bishops && (eqb a.rooks b.rooks && (eqb a.queens b.queens && eqb a.kings b.kings))))))

abbrev pub position_test : Position → Position → Bool
position_test p q = eqb p.half q.half && (eqb p.full q.full && (sets_test (sets_of p.pieces) (sets_of q.pieces) && (side_test p.side q.side && (rights_test p.rights q.rights && option_eq eqb p.passant q.passant))))

abbrev rights_of : Variant → Option ℕ → Option ℕ → Option ℕ → Option ℕ → Rights
rights_of variant a b c d = record { variant = variant; wk = a; wq = b; bk = c; bq = d }

rights-Decides : (a b : Rights) → Decides (rights_test a b) (a ≡ b)
rights-Decides a b =
    let file = option-Decides eqb Decides-eqb in
    let law = Decides-and (variant_test a.variant b.variant) _ (variants-Decides a.variant b.variant) (Decides-and (option_eq eqb a.wk b.wk) _ (file a.wk b.wk) (Decides-and (option_eq eqb a.wq b.wq) _ (file a.wq b.wq)
    (Decides-and (option_eq eqb a.bk b.bk) (option_eq eqb a.bq b.bq) (file a.bk b.bk) (file a.bq b.bq)))) in (
      λ e. let same = law.0 e in let v = same.0 in let one = same.1.0 in let two = same.1.1.0 in let three = same.1.1.1.0 in let four = same.1.1.1.1 in
          let whole : rights_of a.variant a.wk a.wq a.bk a.bq ≡ rights_of b.variant b.wk b.wq b.bk b.bq = cc in whole,
      λ e. law.1 (ap (λ (r : Rights). r.variant) e, (ap (λ (r : Rights). r.wk) e, (ap (λ (r : Rights). r.wq) e, (ap (λ (r : Rights). r.bk) e, ap (λ (r : Rights). r.bq) e)))),
    )

abbrev sets : ℕ → ℕ → ℕ → ℕ → ℕ → ℕ → ℕ → ℕ → Inside
sets w b p n f r q k = record { white = w; black = b; pawns = p; knights = n; bishops = f; rooks = r; queens = q; kings = k }

sets-Decides : (a b : Inside) → Decides (sets_test a b) (a ≡ b)
sets-Decides a b =
    let law = Decides-and (eqb a.white b.white) _ (Decides-eqb a.white b.white) (Decides-and (eqb a.black b.black) _ (Decides-eqb a.black b.black)
    (Decides-and (eqb a.pawns b.pawns) _ (Decides-eqb a.pawns b.pawns) (Decides-and (eqb a.knights b.knights) _ (Decides-eqb a.knights b.knights)
    (Decides-and (eqb a.bishops b.bishops) _ (Decides-eqb a.bishops b.bishops) (Decides-and (eqb a.rooks b.rooks) _ (Decides-eqb a.rooks b.rooks)
    (Decides-and (eqb a.queens b.queens) (eqb a.kings b.kings) (Decides-eqb a.queens b.queens) (Decides-eqb a.kings b.kings))))))) in (
      λ e. let t = law.0 e in
          let w = t.0 in let u = t.1.0 in let p = t.1.1.0 in let n = t.1.1.1.0 in let f = t.1.1.1.1.0 in let r = t.1.1.1.1.1.0 in let q = t.1.1.1.1.1.1.0 in let k = t.1.1.1.1.1.1.1 in
          let whole : sets a.white a.black a.pawns a.knights a.bishops a.rooks a.queens a.kings ≡ sets b.white b.black b.pawns b.knights b.bishops b.rooks b.queens b.kings = cc in whole,
      λ e. law.1 (
        ap (λ (x : Inside). x.white) e,
        (
          ap (λ (x : Inside). x.black) e,
          (
            ap (λ (x : Inside). x.pawns) e,
            (
              ap (λ (x : Inside). x.knights) e,
              (ap (λ (x : Inside). x.bishops) e, (ap (λ (x : Inside). x.rooks) e, (ap (λ (x : Inside). x.queens) e, ap (λ (x : Inside). x.kings) e))),
            ),
          ),
        ),
      ),
    )

-- `==` of two boards says that the same pieces stand on them
pub boards-Decides : (pieces others : Pieces) → length pieces ≡ 64 → length others ≡ 64 → Decides (sets_test (sets_of pieces) (sets_of others)) (pieces ≡ others)
boards-Decides pieces others size size' =
    let law = sets-Decides (sets_of pieces) (sets_of others) in
    (λ e. sym (men_of-sets_of pieces size) ∙ ap pieces_by_sets (law.0 e) ∙ men_of-sets_of others size', λ e. law.1 (ap sets_of e))

abbrev placed : Pieces → Side → Rights → Option ℕ → ℕ → ℕ → Position
placed pieces side rights passant half full = record { pieces = pieces; side = side; rights = rights; passant = passant; half = half; full = full }

pub positions-Decides : (p q : Position) → length p.pieces ≡ 64 → length q.pieces ≡ 64 → Decides (position_test p q) (p ≡ q)
positions-Decides p q size size' =
    let pieces = sets_test (sets_of p.pieces) (sets_of q.pieces) in
    let side = side_test p.side q.side in
    let rights = rights_test p.rights q.rights in
    let passant = option_eq eqb p.passant q.passant in
    let law = Decides-and (eqb p.half q.half) _ (Decides-eqb p.half q.half) (Decides-and (eqb p.full q.full) _ (Decides-eqb p.full q.full)
    (Decides-and pieces _ (boards-Decides p.pieces q.pieces size size') (Decides-and side _ (sides-Decides p.side q.side) (Decides-and rights passant (rights-Decides p.rights q.rights) (option-Decides eqb Decides-eqb p.passant q.passant))))) in (
      λ e. let same = law.0 e in let a = same.0 in let b = same.1.0 in let c = same.1.1.0 in let d = same.1.1.1.0 in let f = same.1.1.1.1.0 in let g = same.1.1.1.1.1 in
          let whole : placed p.pieces p.side p.rights p.passant p.half p.full ≡ placed q.pieces q.side q.rights q.passant q.half q.full = cc in whole,
      λ e. law.1 (ap (λ (x : Position). x.half) e, (ap (λ (x : Position). x.full) e, (ap (λ (x : Position). x.pieces) e, (ap (λ (x : Position). x.side) e, (ap (λ (x : Position). x.rights) e, ap (λ (x : Position). x.passant) e))))),
    )
