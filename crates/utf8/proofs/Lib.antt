pub mod Laws
mod Forms
