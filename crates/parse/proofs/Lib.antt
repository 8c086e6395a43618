-- The paper's parse specimens.
mod Specimens
