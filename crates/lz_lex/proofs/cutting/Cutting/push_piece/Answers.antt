use Rattle.std.proofs.Common.{refl, sym, ap, ◌∙◌, inl, inr}
use Rattle.lz_tree.specs.declared.token.TokenKind.TheVariants as kinds
use Rattle.lz_tree.specs.Tokens.{constant_kind}
use Rattle.lz_lex.specs.Views.{cutting, piece, constant}
use Rattle.lz_lex.specs.Steps.{pieced}
use Rattle.lz_lex.proofs.NamesLemmas.{pieced-white, pieced-block, pieced-line, pieced-include, pieced-one, pieced-word, on_ok}
use Rattle.lz_lex.proofs.cutting.Cutting.push_piece.Goals as goal

pub returns-in-White : goal.returns-in-White
returns-in-White c =
    let at = cutting c.args.self.now in
    elim c.in-White.is [
      | inl white ↦ sym (ap (λ p. pieced at (piece p)) white.1 ∙ pieced-white at white.0)
      | inr rest ↦ elim rest [
        | inl block ↦ sym (ap (λ p. pieced at (piece p)) block ∙ pieced-block at)
        | inr more ↦ elim more [
          | inl line ↦ sym (ap (λ p. pieced at (piece p)) line ∙ pieced-line at)
          | inr include ↦ sym (ap (λ p. pieced at (piece p)) include ∙ pieced-include at)
        ]
      ]
    ]

pub returns-in-Word : goal.returns-in-Word
returns-in-Word c =
    let at = cutting c.args.self.now in
    on_ok c.push_word.result _ c.push_word.ensures (sym (ap (λ p. pieced at (piece p)) c.in-Word.is ∙ pieced-word at c.in-Word.letters.now))

pub returns-in-Integer : goal.returns-in-Integer
returns-in-Integer c =
    let at = cutting c.args.self.now in
    on_ok c.push_constant.result _ c.push_constant.ensures (sym (ap (λ p. pieced at (piece p)) c.in-Integer.is ∙ pieced-one at _ (constant_kind (constant c.in-Integer.constant)) refl refl refl))

pub returns-in-Character : goal.returns-in-Character
returns-in-Character c =
    let at = cutting c.args.self.now in
    on_ok c.push_constant-in-Character.result _ c.push_constant-in-Character.ensures (sym (ap (λ p. pieced at (piece p)) c.in-Character.is ∙ pieced-one at _ (constant_kind (constant c.in-Character.constant)) refl refl refl))

pub returns-in-Text : goal.returns-in-Text
returns-in-Text c =
    let at = cutting c.args.self.now in
    on_ok c.push.result _ c.push.ensures (sym (ap (λ p. pieced at (piece p)) c.in-Text.is ∙ pieced-one at _ kinds.Text refl refl refl))

pub returns-in-Mark : goal.returns-in-Mark
returns-in-Mark c =
    let at = cutting c.args.self.now in
    on_ok c.push_mark.result _ c.push_mark.ensures (sym (ap (λ p. pieced at (piece p)) c.in-Mark.is ∙ pieced-one at _ (kinds.Punct c.in-Mark.punct) refl refl refl))
