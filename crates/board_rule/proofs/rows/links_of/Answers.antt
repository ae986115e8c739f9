use Rattle.std.proofs.Common.{arith, ◌≡◌, ◌∙◌, ℕ, ◌+◌, ◌<◌, ◌∷◌, [], List, length, sym, ap, subst, length-append}
use Rattle.std.specs.Prelude.{slice_index_or}
use Rattle.std.specs.List.{position_or_len}
use Rattle.pw_graph.specs.Pools.{is_same_port, pools_of}
use Rattle.pw_graph.specs.declared.shape.ShapeLink.{ShapeLink}
use Rattle.pw_graph.specs.Layout.{areas_of, io_place}
use Rattle.board_rule.specs.declared.rows.LinkRow.{LinkRow}
use Rattle.board_rule.specs.buffers.EndViews.{no_link, link_in}
use Rattle.board_rule.specs.working.Rows.{IsLinkRow}
use Rattle.board_rule.proofs.activation.RowLemmas.{row_grown, sum_more}
use Rattle.board_rule.proofs.rows.links_of.Goals as goal

pub loop-link-preserved : goal.loop-link-preserved
loop-link-preserved c = let i = c.loop-link.invariant in let n : ℕ = c.loop-link.link-index in let shape = c.args.shape.now in
    let long = i.0 in let start = i.1 in let few = i.2 in
    let links : List ShapeLink = shape.links in let now = c.as_slice-link-items.ensures in
    let count : length c.as_slice-link-items.result.now ≡ length links = ap (λ (l : List ShapeLink). length l) now in
    let inside : n < length links = (let t = c.loop-link-test.true in omega arith) in
    let k : ShapeLink = slice_index_or c.as_slice-link-items.result.now n no_link in
    let same : k ≡ link_in shape n = ap (λ (l : List ShapeLink). slice_index_or l n no_link) now in
    let areas = c.areas_at-area.ensures in let most = areas.most in
    let is : c.areas_at-area.result ≡ areas_of (link_in shape n) = areas.is ∙ ap areas_of same in
    let more = sum_more areas_of links n no_link inside in
    let next : c.loop-link.area + c.areas_at-area.result ≡ io_place shape (n + 1) 0 = omega arith in
    let items = c.in_ok-push.ensures.items in let row = c.link_row.result in
    let new : IsLinkRow shape (link_in shape n) (io_place shape n 0) row =
    subst (λ (z : ShapeLink × ℕ). IsLinkRow shape z.0 z.1 row) (λ j. (same j, start j)) c.link_row.ensures in (
      ap (λ (l : List LinkRow). length l) items ∙ length-append c.loop-link.rows.items (row ∷ []) ∙ ap (λ z. z + 1) long,
      next,
      omega arith,
      λ j d h. subst (λ (l : List LinkRow). IsLinkRow shape (link_in shape j) (io_place shape j 0) (slice_index_or l j d)) (sym items)
          (row_grown (λ z r. IsLinkRow shape (link_in shape z) (io_place shape z 0) r) c.loop-link.rows.items row n long i.3 new j d h),
    )

pub link_row-requires-clause-has : goal.link_row-requires-clause-has
link_row-requires-clause-has c = let n : ℕ = c.loop-link.link-index in let shape = c.args.shape.now in
    let now = c.as_slice-link-items.ensures in
    let count : length c.as_slice-link-items.result.now ≡ length shape.links = ap (λ (l : List ShapeLink). length l) now in
    let inside : n < length shape.links = (let t = c.loop-link-test.true in omega arith) in
    let same : slice_index_or c.as_slice-link-items.result.now n no_link ≡ link_in shape n =
    ap (λ (l : List ShapeLink). slice_index_or l n no_link) now in
    subst (λ (k : ShapeLink). position_or_len (λ x. is_same_port x.port k.from) (pools_of shape) < length (pools_of shape)) (sym same)
    (c.requires.placed.pools n inside)

pub returns : goal.returns
returns c = let i = c.loop-link.invariant in let long = i.0 in let now = c.as_slice-link-items.ensures in
    let count : length c.as_slice-link-items.result.now ≡ length c.args.shape.now.links = ap (λ (l : List ShapeLink). length l) now in
    let end : c.loop-link.link-index ≡ length c.args.shape.now.links =
    (let t = c.loop-link-test.false in let u = c.loop-link.auto.link-index-end in omega arith) in record {
      count = long ∙ end;
      each = λ l d h. i.3 l d (omega arith);
    }
