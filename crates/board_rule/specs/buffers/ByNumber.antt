-- The links and pools of a shape by number.
-- Source: this project's own.
use Rattle.std.specs.Prelude.{ℕ, false, [], slice_index_or}
use Rattle.std.specs.List.{position_or_len}
use Rattle.pw_graph.specs.declared.shape.Shape.{Shape}
use Rattle.pw_graph.specs.declared.shape.ShapeLink.{ShapeLink}
use Rattle.pw_graph.specs.declared.pools.PoolShape.{PoolShape}
use Rattle.pw_graph.specs.Pools.{is_same_port, pools_of}

-- what is read of a number that no link or pool has
abbrev pub no_link : ShapeLink
no_link = record {
  from = record { node = 0; port = 0 };
  to = record { node = 0; port = 0 };
  channels = 0;
  buffers = 0;
  delayed = false;
}

abbrev pub no_pool : PoolShape
no_pool = record {
  port = record { node = 0; port = 0 };
  channels = 0;
  blocks = 0;
  words = 0;
  links = [];
}

-- a link and a pool of a shape by their numbers, and the number of the pool that a link reads
abbrev pub link_in : Shape → ℕ → ShapeLink
link_in shape l = slice_index_or shape.links l no_link

abbrev pub pool_in : Shape → ℕ → PoolShape
pool_in shape q = slice_index_or (pools_of shape) q no_pool

abbrev pub pool_number : Shape → ℕ → ℕ
pool_number shape l = position_or_len (λ x. is_same_port x.port (link_in shape l).from)
    (pools_of shape)
