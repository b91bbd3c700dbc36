-- When a record may be appended, and what the code of open needs of the next tables.
use Rattle.std.specs.Prelude.{◌≡◌, ℕ, ◌+◌, ◌-◌, ◌≤◌, set}
use Rattle.std.proofs.Common.{◌∙◌, arith}
use Rattle.rows.specs.Laws.ChannelRows.{sum-set, place_none}
use Rattle.rows.specs.Definition.Sizes.{chain_length}
use Rattle.rows.specs.declared.Channel.{Channel}
use Rattle.line.specs.Within.Chains.{Chain}
use Rattle.kernel.specs.Definition.Tables.{ram_size, with_channels}
use Rattle.kernel.specs.Definition.Good.{Good}
use Rattle.kernel.specs.Within.{New, HasRoom}
use Rattle.kernel.specs.Definition.Line.{total_of, opening}
use Rattle.kernel.specs.Laws.Body.{keeps-total}
use Rattle.kernel.specs.Laws.Grow.{Grown, grown-rest}
use Rattle.kernel.specs.Laws.KeptLine.{opening-keeps}
use Rattle.kernel.specs.Laws.Chains.{good-chain}
use Rattle.kernel.specs.declared.Tables.{Tables}

module _ (t : Tables) (c : Channel) (g : Good t) (new : New t c) (fits : HasRoom t c) where
  pub opening-good : Good (opening t c)
  opening-good =
      opening-keeps t c g fits.few new.number new.device
      (place_none t.channels c.number t.opened (omega (arith, g.sized.channels, g.channels.most)) new.absent) fits.room

  -- what the next tables have besides, as the chain grew
  opening-rest : Grown (with_channels t (t.opened + 1) (set t.channels t.opened c)) (opening t c)
  unfolding opening
  opening-rest = grown-rest (chain_length t.room (total_of t + (16 + c.n)) - t.held) (with_channels t (t.opened + 1) (set t.channels t.opened c))

  opening-total : total_of (opening t c) ≡ total_of t + (16 + c.n)
  opening-total = keeps-total opening-rest.keeps ∙ sum-set t.channels t.opened c (omega (arith, g.sized.channels, fits.few))

  pub opening-room : (opening t c).room ≡ t.room
  opening-room = opening-rest.keeps.room

  -- there are as many segments as the chain grows by
  pub opening-held : t.held + (chain_length t.room (total_of t + (16 + c.n)) - t.held) ≤ 32
  opening-held =
      let line : (opening t c).held ≡ chain_length t.room (total_of t + (16 + c.n)) = rw (opening-rest.keeps.room, opening-total) at opening-good.line in
      omega (arith, opening-good.chain.most, g.chain.most)

  pub opening-chain : (size : ℕ) → size ≡ ram_size t → Chain (opening t c).chain t.room (total_of t + (16 + c.n)) size
  opening-chain size e =
      let r = opening-rest in
      let k : Chain (opening t c).chain (opening t c).room (total_of (opening t c)) size = good-chain (opening t c) size opening-good (rw r.keeps.segments e) in
      rw (opening-total, r.keeps.room) at k
