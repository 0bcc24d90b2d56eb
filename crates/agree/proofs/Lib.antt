pub mod SizedLaws
pub mod AgreeLaws
